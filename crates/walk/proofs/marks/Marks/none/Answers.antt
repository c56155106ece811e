-- Every word is 0.
use Rattle.std.proofs.Common.{replicate}
use lib.ListN.{get_or-replicate}
use Rattle.walk.proofs.Words.{none_marked}
use Rattle.walk.proofs.marks.Marks.none.Goals as goal

pub returns : goal.returns
returns c = none_marked (replicate 4 0) (λ v l. get_or-replicate 4 v 0 0 l)
