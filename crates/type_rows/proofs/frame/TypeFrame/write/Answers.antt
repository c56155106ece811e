-- The row is put together from the parts.
use Rattle.std.proofs.Common.{◌≡◌, length, rules}
use Rattle.type_rows.proofs.RowWritten.{row_types_written, row_cells_written}
use Rattle.type_rows.proofs.frame.TypeFrame.write.Goals as goal

pub returns-clause-types : goal.returns-clause-types
returns-clause-types c =
    let f = c.args.self.now in
    let p : length f.cells ≡ 16 = search rules in
    let q : length f.registers ≡ 16 = search rules in
    row_types_written f.height f.cells f.registers _ c.write_row.ensures p q

pub returns-clause-registers : goal.returns-clause-registers
returns-clause-registers c =
    let f = c.args.self.now in
    let p : length f.cells ≡ 16 = search rules in
    let q : length f.registers ≡ 16 = search rules in
    λ n. row_cells_written f.height f.cells f.registers _ c.write_row.ensures p q n
