-- What the numbers of a frame show: the types on its stack, the top first, and what its first n registers hold. Assumes nothing.
use Rattle.std.specs.Prelude.{ℕ, List, take}
use Rattle.jinja.specs.declared.ty.Ty.{Ty}
use Rattle.jinja.specs.Rows.{Cell}
use Rattle.type_rows.specs.declared.frame.TypeFrame.{TypeFrame}
use Rattle.type_rows.specs.Numbers.{types_in, cells_in}

abbrev pub frame_types : TypeFrame → List Ty
frame_types f = types_in f.cells f.height

abbrev pub frame_cells : ℕ → TypeFrame → List Cell
frame_cells n f = cells_in (take n f.registers)
