-- The parts of a row that is reached are small.
use Rattle.std.proofs.Common.{drop, arith}
use Rattle.type_rows.proofs.Cells.{small_same}
use Rattle.type_rows.proofs.RowParts.{small_take, small_drop}
use Rattle.type_rows.proofs.frame.TypeFrame.read.Goals as goal

pub invariant_of-result : goal.invariant_of-result
invariant_of-result c =
    let row = c.args.row.now in
    let r = c.requires in
    record {
      low = omega (arith, r.low, r.above);
      small = small_same _ _ c.copy_from_slice.ensures.after (small_take 16 (drop 1 row) (small_drop 1 row r.small));
      others = small_same _ _ c.copy_from_slice-2.ensures.after (small_take 16 (drop 17 row) (small_drop 17 row r.small));
    }
