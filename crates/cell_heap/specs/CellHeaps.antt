-- What the cell heap's layout means.
use Rattle.std.specs.Prelude.{◌≡◌, ℕ, ◌+◌, ◌<◌, List, [], ◌∷◌, length, slice_index_or}
use Rattle.heap.specs.declared.value.Value.{Value}
use Rattle.heap.specs.declared.value.Value.TheVariants.{Unit as unit}
use Rattle.filled.specs.Items.{items_of}
use Rattle.heap.specs.declared.charge.ChargeLine.{ChargeLine}
use Rattle.cell_heap.specs.declared.cell.Cell.{Cell}
use Rattle.cell_heap.specs.declared.cells.Cells.{Cells}
use Rattle.cell_heap.specs.Limits.{cell_limit}
use Rattle.heap.specs.Meaning.{Meaning}
use Rattle.heap.specs.Calls.{object_at}
use Rattle.cell_heap.specs.Strip.{start, objects_of}
use Rattle.cell_heap.specs.Cells.{cell, cell_at, class_of, len_of, value_of}

abbrev pub cell_line : ChargeLine
cell_line = record { fixed = 1; per_field = 1; total = cell_limit }

abbrev pub cell_meaning : Cells → Meaning
cell_meaning h = record { objects = objects_of cell (cell_at (items_of h.cells)) (length (items_of h.starts)); lines = cell_line ∷ [] }

-- the head of the object a is the cell p
pub record HeadAt (h : Cells) (a p : ℕ) : Type 0 where
  pub begins : p ≡ start cell (cell_at (items_of h.cells)) a
  pub inside : p < length (items_of h.cells)
  pub class : class_of (cell_at (items_of h.cells) p) ≡ (object_at (cell_meaning h) a).class
  pub len : len_of (cell_at (items_of h.cells) p) ≡ length (object_at (cell_meaning h) a).row

-- the field i of the object a is the cell p
pub record FieldAt (h : Cells) (a i p : ℕ) : Type 0 where
  pub place : p ≡ start cell (cell_at (items_of h.cells)) a + (1 + i)
  pub inside : p < length (items_of h.cells)
  pub value : value_of (cell_at (items_of h.cells) p) ≡ slice_index_or (object_at (cell_meaning h) a).row i unit

-- the cells cs are the cells bs, and behind them the head and the fields of an object
pub record LaidBehind (bs cs : List Cell) (c : ℕ) (vs : List Value) : Type 0 where
  pub top : length cs ≡ length bs + (1 + length vs)
  pub before : (j : ℕ) → j < length bs → cell_at cs j ≡ cell_at bs j
  pub class : class_of (cell_at cs (length bs)) ≡ c
  pub len : len_of (cell_at cs (length bs)) ≡ length vs
  pub fields : (i : ℕ) → i < length vs → value_of (cell_at cs (length bs + (1 + i))) ≡ slice_index_or vs i unit
