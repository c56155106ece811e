use Rattle.std.proofs.Common.{◌∙◌}
use Rattle.engine.proofs.HeapAnswers.{read_answered}
use Rattle.engine.proofs.fields.value_at.Goals as goal

pub returns : goal.returns
returns g c = c.ok.ensures.value ∙ read_answered (g.H.Heap.meaning c.args.heap.now) c.args.a c.args.i c.read.ensures
