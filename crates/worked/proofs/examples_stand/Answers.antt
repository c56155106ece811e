-- Named from the proof of the theorem.
use Rattle.worked.proofs.Examples.{examples_stand}
use Rattle.worked.proofs.examples_stand.Goals as goal

pub returns : goal.returns
returns c = examples_stand
