-- Rows as 33 numbers of a workspace: the height, 16 stack cells with the bottom first, and 16 registers. Assumes nothing.
use Rattle.std.specs.Prelude.{◌≡◌, ℕ, zero, suc, ◌-◌, ◌≤◌, cond, List, ◌∷◌, ◌++◌, map, reverse, length, take, drop, replicate, ◌==◌, nat_le, slice_index}
use Rattle.format.specs.Limits.{max_height, max_registers}
use Rattle.jinja.specs.declared.ty.Ty.{Ty}
use Rattle.jinja.specs.Program.{Program}
use Rattle.jinja.specs.Types.{type_number, type_of_number}
use Rattle.jinja.specs.Lookups.{Owned}
use Rattle.jinja.specs.Rows.{Cell, usable, unusable, Row, unreached, reached, registers}
use Rattle.stack.specs.Stacked.{held}
use Rattle.type_rows.specs.Merging.{Merge, merged, clash, InUse}

-- the number of what is absent or unusable
abbrev pub absent : ℕ
absent = 255

-- how many numbers a row has
abbrev pub width : ℕ
width = 33

-- a cell of the operand stack or a register by its number
abbrev pub cell_number : Cell → ℕ
cell_number (usable t) = type_number t
cell_number unusable = absent

abbrev pub cell_of_number : ℕ → Cell
cell_of_number n = cond (n == absent) unusable (usable (type_of_number n))

-- the greatest number of a type
abbrev pub largest : ℕ
largest = 259

-- every number is that of a type, or absent
abbrev pub Small : List ℕ → Type 0
Small xs = (k : ℕ) → slice_index xs k ≤ largest

-- the types of a stack of height h over cells, the top first
abbrev pub types_in : List ℕ → ℕ → List Ty
types_in cells h = map type_of_number (held cells h)

-- what registers hold
abbrev pub cells_in : List ℕ → List Cell
cells_in registers = map cell_of_number registers

-- the 16 stack cells, and the 16 registers
abbrev pub stack_part : List ℕ → List ℕ
stack_part xs = take max_height (drop 1 xs)

abbrev pub register_part : List ℕ → List ℕ
register_part xs = take max_registers (drop (suc max_height) xs)

-- the row of height h with n registers
abbrev pub row_of_height : ℕ → ℕ → List ℕ → Row
row_of_height n h xs = reached (types_in (stack_part xs) h) (cells_in (take n (register_part xs)))

-- by the first number: 0 is unreached, 1 + h a row of height h, and all else a clash
abbrev pub row_of_first : ℕ → ℕ → List ℕ → Merge
row_of_first n zero xs = merged unreached
row_of_first n (suc h) xs = cond (nat_le h max_height) (merged (row_of_height n h xs)) clash

-- the row that the numbers show in a method with n registers
unfoldable pub read_row : ℕ → List ℕ → Merge
read_row n xs = row_of_first n (slice_index xs 0) xs

-- the numbers show a row of the method
pub record Shows (P : Program) (M : Owned) (xs : List ℕ) : Type 0 where
  pub whole : length xs ≡ width
  pub small : Small xs
  pub in_use : InUse P M (read_row (registers M) xs)

-- xs, and absent up to n numbers
abbrev pub padded : ℕ → List ℕ → List ℕ
padded n xs = xs ++ replicate (n - length xs) absent

-- how a row is handed out
abbrev pub row_numbers : Row → List ℕ
row_numbers unreached = 0 ∷ replicate (width - 1) absent
row_numbers (reached st lt) = suc (length st) ∷ padded max_height (map type_number (reverse st)) ++ padded max_registers (map cell_number lt)
