-- The lowest types are those of the lowest cells.
use Rattle.std.proofs.Common.{◌≡◌, ◌≤◌, length, sym, arith, rules}
use Rattle.type_rows.proofs.Cells.{types_height, lowest_types}
use Rattle.type_rows.proofs.frame.TypeFrame.cut.Goals as goal

pub returns-clause-left : goal.returns-clause-left
returns-clause-left c =
    let f = c.args.self.now in
    let long : length f.cells ≡ 16 = search rules in
    let low : f.height ≤ length f.cells = omega (arith, f.low) in
    sym (lowest_types f.cells f.height c.args.depth low (omega (arith, c.requires, types_height f.cells f.height low)))
