-- How a cell of the cell heap is read.
use Rattle.std.specs.Prelude.{ℕ, ◌≤◌, List, slice_index_or}
use Rattle.std.proofs.Common.{arith}
use Rattle.heap.specs.declared.value.Value.{Value}
use Rattle.heap.specs.declared.value.Value.TheVariants.{Unit as unit}
use Rattle.cell_heap.specs.declared.cell.Cell.{Cell}
use Rattle.cell_heap.specs.declared.cell.Cell.TheVariants.{Start, Field}
use Rattle.heap.specs.Meaning.{row_limit}
use Rattle.cell_heap.specs.Strip.{Reading}

abbrev pub class_of : Cell → ℕ
class_of (Start h) = h.class
class_of (Field v) = 0

abbrev pub len_of : Cell → ℕ
len_of (Start h) = h.len
len_of (Field v) = 0

abbrev pub value_of : Cell → Value
value_of (Start h) = unit
value_of (Field v) = v

pub short_len : (x : Cell) → len_of x ≤ row_limit
short_len (Start h) = h.short
short_len (Field v) = omega arith

abbrev pub cell : Reading Cell
cell = record { class = class_of; len = len_of; value = value_of; short = short_len }

abbrev pub cell_at : List Cell → ℕ → Cell
cell_at cs j = slice_index_or cs j (Field unit)
