-- The number of the type stands in the register.
use Rattle.std.proofs.Common.{◌<◌, set, take, ap, ◌∙◌, arith}
use Rattle.std.proofs.Math.Seq.{take-set-lt}
use Rattle.std.proofs.lemmas.List.{map-set}
use Rattle.jinja.specs.Types.{type_of_number}
use Rattle.type_rows.specs.Numbers.{cell_of_number, cells_in}
use Rattle.type_rows.proofs.Back.{type_back}
use Rattle.type_rows.proofs.Cells.{cell_of_type}
use Rattle.type_rows.proofs.frame.TypeFrame.store.Goals as goal

pub returns-clause-stored : goal.returns-clause-stored
returns-clause-stored c =
    let n = c.args.n in
    let x = c.from.result in
    let xs = c.args.self.now.registers in
    let first = take c.args.count xs in
    let within : n < c.args.count = omega arith in
    ap cells_in (take-set-lt c.args.count xs n x within)
    ∙ map-set cell_of_number first n x
    ∙ ap (set (cells_in first) n) (cell_of_type x c.args.t (omega (arith, c.from.ensures)) (ap type_of_number c.from.ensures ∙ type_back c.args.t))
