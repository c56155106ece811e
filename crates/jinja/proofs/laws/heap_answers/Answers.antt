-- Named from the proof of the theorem.
use Rattle.jinja.proofs.HeapAnswers.{heap_laws}
use Rattle.jinja.proofs.laws.heap_answers.Goals as goal

pub returns : goal.returns
returns c = heap_laws
