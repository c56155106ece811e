-- What a walk answers. Assumes nothing.
use Rattle.std.specs.Prelude.{◌≡◌, ℕ, ◌*◌, ◌<◌, List, length, Ok, Err, Result}
use Rattle.walk.specs.declared.unsolved.Unsolved.{Unsolved}
use Rattle.walk.specs.declared.unsolved.Unsolved.TheVariants.{Refused, Short}
use Rattle.walk.specs.Limits.{width}
use Rattle.walk.specs.Framework.{Framework, nodes}
use Rattle.walk.specs.Solution.{Least, Unsolvable}
use Rattle.walk.specs.Rows.{Room, table, Shown}

-- from the workspace xs to xs': the rows are the least solution, or there is no solution; or xs is too short for the
-- rows, and untouched
abbrev pub Answers : Framework → List ℕ → List ℕ → Result (Unit {0}) Unsolved → Type 0
Answers m xs xs' (Ok _) = Room m xs × Shown m xs' × Least m (table m xs')
Answers m xs xs' (Err Refused) = Room m xs × Unsolvable m
Answers m xs xs' (Err Short) = (length xs < nodes m * width) × (xs' ≡ xs)
