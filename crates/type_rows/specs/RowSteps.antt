-- A step of a method from one row of numbers to another.
use Rattle.std.specs.Prelude.{◌≡◌, ℕ, suc, ◌-◌, ◌<◌, ◌≤◌, List, length, take, Option, slice_index, slice_index_or}
use Rattle.format.specs.Limits.{max_height}
use Rattle.jinja.specs.declared.ty.Ty.{Ty}
use Rattle.jinja.specs.declared.instr.Instr.{Instr}
use Rattle.jinja.specs.Rows.{Cell}
use Rattle.jinja.specs.Transfer.{transfer}
use Rattle.type_rows.specs.declared.leads.Leads.{Leads}
use Rattle.type_rows.specs.declared.method.Method.{Method}
use Rattle.type_rows.specs.Leading.{told}
use Rattle.type_rows.specs.Numbers.{width, Small, types_in, cells_in, stack_part, register_part}
use Rattle.type_rows.specs.declared.frame.TypeFrame.{TypeFrame}
use Rattle.type_rows.specs.Stepping.{program, owned}
use Rattle.type_rows.specs.TypeFrames.{frame_types, frame_cells}

-- the stack and the registers of a row of numbers that is reached
abbrev pub row_types : List ℕ → List Ty
row_types xs = types_in (stack_part xs) (slice_index xs 0 - 1)

abbrev pub row_cells : ℕ → List ℕ → List Cell
row_cells n xs = cells_in (take n (register_part xs))

-- numbers that show a reached row whose types are told from an absent one
pub record Reached (xs : List ℕ) : Type 0 where
  pub whole : length xs ≡ width
  pub small : Small xs
  pub above : 0 < slice_index xs 0
  pub low : slice_index_or xs 0 0 ≤ suc max_height

-- what the instruction sends from a frame, by where it leads and the row that it writes
abbrev pub RowSteps : Method → Instr → ℕ → TypeFrame → Option Leads → List ℕ → Type 0
RowSteps m i pc f r ys = transfer (program m) (owned m) i pc (frame_types f) (frame_cells m.registers f) ≡ told r pc (row_types ys) (row_cells m.registers ys)
