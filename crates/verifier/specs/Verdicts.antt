-- What can be said of the methods of a program by their numbers. Assumes nothing.
use Rattle.std.specs.Prelude.{◌≡◌, ℕ, ◌<◌, Some}
use Rattle.jinja.specs.Program.{Program}
use Rattle.jinja.specs.Lookups.{Owned, method_at}
use Rattle.jinja.specs.Rows.{Table}
use Rattle.jinja.specs.WellTyping.{Least, Untypable}

-- the method of that number, if there is one, has a least well-typing
abbrev pub TypedAt : Program → ℕ → Type 0
TypedAt P k = (M : Owned) → method_at P k ≡ Some M → (rows : Table) × Least P M rows

-- there is a method of that number, and it has no well-typing
pub record UntypedAt (P : Program) (k : ℕ) : Type 0 where
  pub method : Owned
  pub stands : method_at P k ≡ Some method
  pub untypable : Untypable P method

-- and it is the first such method
pub record FirstUntyped (P : Program) (k : ℕ) : Type 0 where
  pub before : (j : ℕ) → j < k → TypedAt P j
  pub here : UntypedAt P k
