-- Rows: what a well-typing says of the operand stack and the registers at one instruction. Assumes nothing.
use Rattle.std.specs.Prelude.{◌≡◌, ℕ, ◌+◌, List, [], ◌∷◌, ◌++◌, map, length, replicate}
use Rattle.std.specs.List.{AllByRecursion}
use Rattle.jinja.specs.declared.ty.Ty.{Ty}
use Rattle.jinja.specs.declared.ty.Ty.TheVariants.{Class}
use Rattle.jinja.specs.Program.{Program}
use Rattle.jinja.specs.Lookups.{Owned}
use Rattle.jinja.specs.WellFormed.{TypeExists}

-- a register: it holds a value of this type, or anything
pub data Cell : Type 0 where
  usable : Ty → Cell
  unusable : Cell

-- an instruction is unreached, or has stack types, the top one first, and registers
pub data Row : Type 0 where
  unreached : Row
  reached : List Ty → List Cell → Row

-- a row for each instruction of a method
abbrev pub Table : Type 0
Table = ℕ → Row

-- this object, the parameters and the extras
abbrev pub registers : Owned → ℕ
registers M = 1 + length M.method.params + M.method.extras

-- what a method begins with: no operands, this object and the parameters, and unusable extras
abbrev pub first_registers : Owned → List Cell
first_registers M = usable (Class M.owner) ∷ map usable M.method.params ++ replicate M.method.extras unusable

abbrev pub first_row : Owned → Row
first_row M = reached [] (first_registers M)

abbrev pub CellExists : Program → Cell → Type 0
CellExists P (usable t) = TypeExists P t
CellExists P unusable = Unit {0}

-- a row of the method M: types of the program, and one cell for each register
pub data RowOf (P : Program) (M : Owned) : Row → Type 0 where
  no_row : RowOf P M unreached
  row : {st : List Ty} {lt : List Cell} → AllByRecursion (TypeExists P) st → AllByRecursion (CellExists P) lt → length lt ≡ registers M → RowOf P M (reached st lt)
