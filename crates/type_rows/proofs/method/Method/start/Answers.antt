-- The numbers of the first row show it.
use Rattle.std.proofs.Common.{◌≤◌, length, arith}
use Rattle.format.proofs.WellFormed.{kept_is_well_formed}
use Rattle.jinja.specs.Classes.{table}
use Rattle.jinja.specs.Rows as rows
use Rattle.tables.proofs.Spans.{few_classes}
use Rattle.tables.proofs.Programs.{length_program}
use Rattle.type_rows.specs.Frameworks.{method_stands}
use Rattle.type_rows.specs.SentRows.{first_in_use}
use Rattle.type_rows.specs.Stepping.{program, owned}
use Rattle.type_rows.proofs.FirstRow.{first_read, first_shown}
use Rattle.type_rows.proofs.method.Method.start.Goals as goal

pub returns : goal.returns
returns c =
    let m = c.args.self.now in
    let P = program m in
    let t = m.tables.now in
    let w = kept_is_well_formed P m.kept in
    let few : length (table P) ≤ 32 = omega (arith, length_program t, few_classes t) in
    let narrow : rows.registers (owned m) ≤ 16 = omega (arith, m.narrow, m.wide) in
    let u = first_in_use w m.number (method_stands m) in
    record { shows = first_shown w few (owned m) narrow u c.write_first.ensures; means = first_read w few (owned m) narrow u c.write_first.ensures }
