-- Every cell heap is lawful.
use Rattle.std.specs.Prelude.{◌≡◌, ◌≤◌, length}
use Rattle.std.proofs.Common.{arith}
use Rattle.std.proofs.lemmas.List.{length-take-le}
use Rattle.filled.specs.Items.{items_of}
use Rattle.cell_heap.specs.declared.cells.Cells.{Cells}
use Rattle.heap.specs.Lawful.{Lawful, here}
use Rattle.cell_heap.specs.Limits.{cell_limit}
use Rattle.cell_heap.specs.Cells.{cell, cell_at}
use Rattle.cell_heap.specs.CellHeaps.{cell_meaning}
use Rattle.cell_heap.specs.StripLaws.{objects_length, rows_short, start_up}

module _ (h : Cells) where
  pub cells_length : length (cell_meaning h).objects ≡ length (items_of h.starts)
  cells_length = objects_length cell (cell_at (items_of h.cells)) (length (items_of h.starts))

  pub cells_few : length (items_of h.starts) ≤ length (items_of h.cells)
  cells_few = let u = start_up cell (cell_at (items_of h.cells)) (length (items_of h.starts)) in let e = h.laid in omega arith

  pub cells_within : length (items_of h.cells) ≤ cell_limit
  cells_within = let e = length-take-le h.cells.len h.cells.cells (omega arith) in omega arith

  pub cells_lawful : Lawful (cell_meaning h)
  cells_lawful =
      let l = cells_length in
      let f = cells_few in
      let w = cells_within in
      record {
        few = omega arith;
        short = rows_short cell (cell_at (items_of h.cells)) (length (items_of h.starts));
        lines = record { small = (record { fixed = omega arith; per_field = omega arith; total = omega arith }, tt); charged = here (omega arith) };
      }
