-- The digit that is read is the node's.
use Rattle.std.proofs.Common.{refl}
use Rattle.walk.specs.Marks.{marked}
use Rattle.walk.proofs.marks.Marks.has.Goals as goal

pub returns : goal.returns
unfolding marked
returns c = refl
