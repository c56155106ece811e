-- How often the rows of a method can still rise. Assumes nothing.
use Rattle.std.specs.Prelude.{ℕ, zero, suc, ◌+◌, ◌*◌, ◌≤◌, List, [], ◌∷◌, length}
use Rattle.jinja.specs.declared.ty.Ty.{Ty}
use Rattle.jinja.specs.declared.ty.Ty.TheVariants.{Void, Boolean, Integer, NullType, Class}
use Rattle.jinja.specs.Program.{Program}
use Rattle.jinja.specs.Classes.{table}
use Rattle.jinja.specs.Lookups.{Owned}
use Rattle.jinja.specs.Rows.{Cell, usable, unusable, Row, unreached, reached, Table, registers, RowOf}

-- a row of the method whose stack is at most as high as the method allows
pub data Allowed (P : Program) (M : Owned) : Row → Type 0 where
  unreached_allowed : Allowed P M unreached
  reached_allowed : {st : List Ty} {lt : List Cell} → RowOf P M (reached st lt) → length st ≤ M.method.height → Allowed P M (reached st lt)

-- how often a type can still rise: a superclass has a smaller number, and Null's type lies below every class
abbrev pub type_left : Program → Ty → ℕ
type_left P Void = 0
type_left P Boolean = 0
type_left P Integer = 0
type_left P NullType = length (table P)
type_left P (Class c) = c

-- and a register, which may become unusable
abbrev pub cell_left : Program → Cell → ℕ
cell_left P (usable t) = suc (type_left P t)
cell_left P unusable = 0

abbrev pub sum_of : {A : Type 0} → (A → ℕ) → List A → ℕ
sum_of f [] = 0
sum_of f (x ∷ xs) = f x + sum_of f xs

-- no reached row of the method can rise more often
abbrev pub most_left : Program → Owned → ℕ
most_left P M = (M.method.height + registers M) * suc (length (table P))

abbrev pub row_left : Program → Owned → Row → ℕ
row_left P M unreached = suc (most_left P M)
row_left P M (reached st lt) = sum_of (type_left P) st + sum_of (cell_left P) lt

-- the sum of f 0 .. f (n - 1)
abbrev pub sum_below : ℕ → (ℕ → ℕ) → ℕ
sum_below zero f = 0
sum_below (suc n) f = f n + sum_below n f

-- and the rows of all instructions together
abbrev pub table_left : Program → Owned → Table → ℕ
table_left P M rows = sum_below (length M.method.code) (λ pc. row_left P M (rows pc))
