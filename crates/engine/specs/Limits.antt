-- The limits of a frame, as src/frame.rt has them for the code. Assumes nothing.
use Rattle.std.specs.Prelude.{◌≡◌, ℕ, ◌+◌, ◌≤◌, length, Some}
use Rattle.jinja.specs.Program.{Program}
use Rattle.jinja.specs.Lookups.{Owned, method_at}

-- the cells of an operand stack
abbrev pub cell_limit : ℕ
cell_limit = 16

abbrev pub register_limit : ℕ
register_limit = 16

-- every method's operand stack and registers fit a frame
pub record Fitting (P : Program) : Type 0 where
  pub heights : (k : ℕ) (M : Owned) → method_at P k ≡ Some M → M.method.height ≤ cell_limit
  pub registers : (k : ℕ) (M : Owned) → method_at P k ≡ Some M → 1 + length M.method.params + M.method.extras ≤ register_limit
