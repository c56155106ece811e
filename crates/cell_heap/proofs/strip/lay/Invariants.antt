use Rattle.std.proofs.Common.{◌≡◌, ℕ, ◌+◌, ◌<◌, ◌≤◌, length, get_or}
use Rattle.heap.specs.declared.value.Value.TheVariants.{Unit as unit}
use Rattle.filled.specs.Items.{items_of}
use Rattle.cell_heap.specs.Cells.{cell_at, value_of}
use Rattle.cell_heap.proofs.strip.lay.Given as goal

abbrev pub invariant-loop-value : goal.invariant-loop-value
invariant-loop-value l =
    let at = length (items_of l.fn.cells) in
    record {
      top : length (items_of l.cells) ≡ at + (1 + l.value-index);
      same : (j : ℕ) → j ≤ at → cell_at (items_of l.cells) j ≡ cell_at (items_of l.initial.cells) j;
      fields : (m : ℕ) → m < l.value-index → value_of (cell_at (items_of l.cells) (at + (1 + m))) ≡ get_or l.row m unit;
    }
