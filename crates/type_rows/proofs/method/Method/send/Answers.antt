-- By the first number: nothing has reached the instruction, paths clash, or an edge sends a row.
use Rattle.std.proofs.Common.{ℕ, ◌<◌, ◌≤◌, List, length, get_or, sym, ap, ◌∙◌, subst, arith}
use Rattle.std.specs.List.{slice_get}
use Rattle.format.proofs.WellFormed.{kept_is_well_formed}
use Rattle.jinja.specs.declared.ty.Ty.{Ty}
use Rattle.jinja.specs.Classes.{table}
use Rattle.jinja.specs.Lookups.{method_at}
use Rattle.jinja.specs.Rows as rows
use Rattle.tables.proofs.Spans.{few_classes}
use Rattle.tables.proofs.Programs.{length_program}
use Rattle.type_rows.specs.FlowLaws.{taken_at}
use Rattle.type_rows.specs.Merging.{InUse}
use Rattle.type_rows.specs.MethodFlow.{refuses, edge_of, carries}
use Rattle.type_rows.specs.Numbers.{read_row}
use Rattle.type_rows.specs.Registers.{Told}
use Rattle.type_rows.specs.Taking.{Suits}
use Rattle.type_rows.specs.RowSteps.{row_types, row_cells}
use Rattle.type_rows.specs.Stepping.{program, owned}
use Rattle.type_rows.proofs.EdgesSent.{method_found, edge_shown}
use Rattle.type_rows.proofs.Reading.{read_unreached, read_reached, read_clash, row_in_use_told}
use Rattle.type_rows.proofs.method.Method.send.Goals as goal

pub returns-in-Unreached : goal.returns-in-Unreached
returns-in-Unreached c = let m = c.args.self.now in record { shows = tt; sends = ap (carries (program m) (owned m) c.args.pc c.args.e) (read_unreached (rows.registers (owned m)) c.args.row.now c.in-Unreached.ensures) }

pub returns-in-Clash : goal.returns-in-Clash
returns-in-Clash c = let m = c.args.self.now in record { shows = tt; sends = ap (carries (program m) (owned m) c.args.pc c.args.e) (read_clash (rows.registers (owned m)) c.args.row.now c.in-Clash.ensures) }

pub read-requires : goal.read-requires
read-requires c = record { whole = c.requires.row.whole; small = c.requires.row.small; above = c.in-Reached.ensures.0; low = c.in-Reached.ensures.1 }

pub send_reached-requires : goal.send_reached-requires
send_reached-requires c =
    let m = c.args.self.now in
    let P = program m in
    let M = owned m in
    let row = c.args.row.now in
    let site = c.in_ok-site-in-Reached.site in
    let n = rows.registers M in
    let t = m.tables.now in
    let above : 0 < get_or row 0 0 = c.in-Reached.ensures.0 in
    let low : get_or row 0 0 ≤ 17 = c.in-Reached.ensures.1 in
    let few : length (table P) ≤ 32 = omega (arith, length_program t, few_classes t) in
    let here = c.in_ok-site-in-Reached.ensures.1 in
    let at = ap (slice_get M.method.code) here ∙ c.in_ok-site-in-Reached.ensures.0 in
    let read = read_reached n row above low in
    let takes = taken_at (kept_is_well_formed P m.kept) M site.pc at (row_types row) (row_cells n row) (ap (refuses P M site.pc) (sym read) ∙ ap (λ (k : ℕ). refuses P M k (read_row n row)) here ∙ c.requires.taken) in
    let same = sym c.read.ensures.types in
    record {
      told = subst Told same (row_in_use_told P M (row_types row) (row_cells n row) few (subst (InUse P M) read c.requires.row.in_use));
      suits = λ j x f r. subst (λ (st : List Ty). Suits P M st x) same (takes.caught j x f r).0;
    }

pub returns-in_ok-site-in-Reached : goal.returns-in_ok-site-in-Reached
returns-in_ok-site-in-Reached c =
    let m = c.args.self.now in
    let P = program m in
    let M = owned m in
    let row = c.args.row.now in
    let pc = c.args.pc in
    let site = c.in_ok-site-in-Reached.site in
    let found = method_found (method_at P m.number) pc c.requires.node in
    let sent = rw (c.read.ensures.types, c.read.ensures.registers m.registers) at c.send_reached.ensures.sends in
    let sends = ap (λ (k : ℕ). edge_of P M site.instr k c.args.e (row_types row) (row_cells m.registers row)) (sym c.in_ok-site-in-Reached.ensures.1) ∙ sent in
    let x = edge_shown (kept_is_well_formed P m.kept) m.number found m.short pc c.args.e m.registers row c.send_reached.new.out c.send_reached.result c.in_ok-site-in-Reached.ensures.0 c.requires.node c.requires.edge m.wide c.in-Reached.ensures.0 c.in-Reached.ensures.1 c.requires.row.in_use c.requires.taken sends c.send_reached.ensures.reached in
    record { shows = x.0; sends = x.1 }
