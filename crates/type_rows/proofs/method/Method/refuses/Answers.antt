-- By the first number: nothing has reached the instruction, paths clash, or it is reached.
use Rattle.std.proofs.Common.{ℕ, ◌≤◌, length, Some, None, sym, ap, ◌∙◌, subst, arith}
use Rattle.jinja.specs.Classes.{table}
use Rattle.jinja.specs.Rows as rows
use Rattle.jinja.specs.Rows.{reached}
use Rattle.type_rows.specs.MethodFlow.{refuses_row}
use Rattle.tables.proofs.Spans.{few_classes}
use Rattle.tables.proofs.Programs.{length_program}
use Rattle.type_rows.specs.Merging.{InUse}
use Rattle.type_rows.specs.Registers.{Told}
use Rattle.type_rows.specs.RowSteps.{row_types, row_cells}
use Rattle.type_rows.specs.Stepping.{program, owned}
use Rattle.type_rows.proofs.Reading.{read_reached, row_in_use_told, refuses_unreached, refuses_clash, refuses_reached}
use Rattle.type_rows.proofs.method.Method.refuses.Goals as goal

pub returns-in-Unreached : goal.returns-in-Unreached
returns-in-Unreached c = let m = c.args.self.now in sym (refuses_unreached (program m) (owned m) c.args.pc (rows.registers (owned m)) c.args.row.now c.requires.node c.in-Unreached.ensures)

pub returns-in-Clash : goal.returns-in-Clash
returns-in-Clash c = let m = c.args.self.now in sym (refuses_clash (program m) (owned m) c.args.pc (rows.registers (owned m)) c.args.row.now c.in-Clash.ensures)

pub read-requires : goal.read-requires
read-requires c = record { whole = c.requires.row.whole; small = c.requires.row.small; above = c.in-Reached.ensures.0; low = c.in-Reached.ensures.1 }

pub refuses_reached-requires : goal.refuses_reached-requires
refuses_reached-requires c =
    let m = c.args.self.now in
    let P = program m in
    let row = c.args.row.now in
    let n = rows.registers (owned m) in
    let t = m.tables.now in
    let few : length (table P) ≤ 32 = omega (arith, length_program t, few_classes t) in
    subst Told (sym c.read.ensures.types)
    (row_in_use_told P (owned m) (row_types row) (row_cells n row) few (subst (InUse P (owned m)) (read_reached n row c.in-Reached.ensures.0 c.in-Reached.ensures.1) c.requires.row.in_use))

pub returns-in-Some : goal.returns-in-Some
returns-in-Some c =
    let m = c.args.self.now in
    let row = c.args.row.now in
    let site = c.in-Some.site in
    let n = m.registers in
    let told = rw (c.read.ensures.types, c.read.ensures.registers n) at c.refuses_reached.ensures in
    told
    ∙ ap (λ (k : ℕ). refuses_row (program m) (owned m) site.instr k (reached (row_types row) (row_cells n row))) c.in-Some.ensures.1
    ∙ sym (refuses_reached (program m) (owned m) c.args.pc (rows.registers (owned m)) row (Some site.instr) n c.in-Some.ensures.0 m.wide c.in-Reached.ensures.0 c.in-Reached.ensures.1)

pub returns-in-None : goal.returns-in-None
returns-in-None c =
    let m = c.args.self.now in
    sym (refuses_reached (program m) (owned m) c.args.pc (rows.registers (owned m)) c.args.row.now None m.registers c.in-None.ensures m.wide c.in-Reached.ensures.0 c.in-Reached.ensures.1)
