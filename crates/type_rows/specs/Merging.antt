-- Rows as the verifier joins them: where two have no row above both, paths clash. Assumes nothing.
use Rattle.std.specs.Prelude.{ℕ, suc, ◌≤◌, length}
use Rattle.jinja.specs.Program.{Program}
use Rattle.jinja.specs.Classes.{maybe}
use Rattle.jinja.specs.Lookups.{Owned}
use Rattle.jinja.specs.Rows.{Row, unreached, reached, RowOf}
use Rattle.jinja.specs.Join.{join_row}
use Rattle.jinja.specs.Rising.{row_left}

-- a row, or a clash: two paths meet with stacks of other heights, or with stack cells of no common type
pub data Merge : Type 0 where
  merged : Row → Merge
  clash : Merge

-- nothing comes back from a clash
abbrev pub merge : Program → Merge → Merge → Merge
merge P clash y = clash
merge P (merged r) clash = clash
merge P (merged r) (merged s) = maybe (join_row P r s) clash merged

abbrev pub row_height : Row → ℕ
row_height unreached = 0
row_height (reached st lt) = length st

-- a row of the method whose stack is at most as high as the method allows
pub data InUse (P : Program) (M : Owned) : Merge → Type 0 where
  row_in_use : {r : Row} → RowOf P M r → row_height r ≤ M.method.height → InUse P M (merged r)
  clash_in_use : InUse P M clash

-- how often it can still rise
abbrev pub left : Program → Owned → Merge → ℕ
left P M (merged r) = suc (row_left P M r)
left P M clash = 0
