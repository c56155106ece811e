-- What the solutions of a method's flow are: its well-typings. Assumes nothing.
use Rattle.std.specs.Prelude.{◌≡◌, ℕ, ◌≤◌, length, Some}
use Rattle.jinja.specs.Program.{Program}
use Rattle.jinja.specs.Lookups.{Owned, method_at}
use Rattle.jinja.specs.WellFormed.{WellFormed}
use Rattle.jinja.specs.Rows as rows
use Rattle.jinja.specs.Rows.{Row, unreached}
use Rattle.jinja.specs.WellTyping as typing
use Rattle.walk.specs.Limits.{most_nodes}
use Rattle.walk.specs.Solution.{Least, Unsolvable}
use Rattle.type_rows.specs.Merging.{Merge, merged, clash}
use Rattle.type_rows.specs.TypeRows.{type_rows}

-- no solution has a clash
abbrev pub row_of : Merge → Row
row_of (merged r) = r
row_of clash = unreached

abbrev pub rows_of : (ℕ → Merge) → rows.Table
rows_of T = λ pc. row_of (T pc)

-- the least solution is the least well-typing, and where there is no solution there is no well-typing
pub record TypedBySolving (P : Program) (M : Owned) (k : ℕ) (w : WellFormed P) (m : method_at P k ≡ Some M) (few : length M.method.code ≤ most_nodes) : Type 0 where
  pub least : (T : ℕ → Merge) → Least (type_rows P M k w m few) T → typing.Least P M (rows_of T)
  pub none : Unsolvable (type_rows P M k w m few) → typing.Untypable P M

abbrev pub TypedBySolvingHolds : Type 0
TypedBySolvingHolds = (P : Program) (M : Owned) (k : ℕ) (w : WellFormed P) (m : method_at P k ≡ Some M) (few : length M.method.code ≤ most_nodes) → TypedBySolving P M k w m few
