-- Each part in its place.
use Rattle.std.proofs.Common.{◌+◌, rules}
use Rattle.type_rows.proofs.RowParts.{row_of_parts}
use Rattle.type_rows.proofs.row.write_row.Goals as goal

pub returns : goal.returns
returns c =
    rw (c.copy_from_slice.ensures.after, c.copy_from_slice-2.ensures.after)
    (row_of_parts c.args.out.now (c.args.height + 1) c.args.cells.now c.args.registers.now (search rules) (search rules) (search rules))
