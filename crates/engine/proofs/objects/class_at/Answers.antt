use Rattle.std.proofs.Common.{◌∙◌}
use Rattle.engine.proofs.HeapAnswers.{class_answered}
use Rattle.engine.proofs.objects.class_at.Goals as goal

pub returns : goal.returns
returns g c = c.ok.ensures.value ∙ class_answered (g.H.Heap.meaning c.args.heap.now) c.args.a c.class.ensures
