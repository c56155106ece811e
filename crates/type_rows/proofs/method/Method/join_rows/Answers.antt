-- By the first numbers: one row is unreached, a clash, or of another height.
use Rattle.std.proofs.Common.{set, sym, refl, ap, ◌∙◌, subst, arith, length-set}
use Rattle.format.proofs.WellFormed.{kept_is_well_formed}
use Rattle.jinja.specs.Rows as rows
use Rattle.type_rows.specs.Merging.{Merge, merge}
use Rattle.type_rows.specs.MergeLaws.{merge_lattice}
use Rattle.type_rows.specs.Numbers.{Shows, read_row}
use Rattle.type_rows.specs.Stepping.{program, owned}
use Rattle.type_rows.proofs.Cells.{small_set}
use Rattle.type_rows.proofs.Changed.{still_unreached, clash_differs}
use Rattle.type_rows.proofs.JoinedAnyway.{with_unreached, other_height, set_first}
use Rattle.type_rows.proofs.JoinedRows.{join_shown}
use Rattle.type_rows.proofs.Reading.{read_unreached, read_clash}
use Rattle.type_rows.proofs.method.Method.join_rows.Goals as goal

pub returns-then-other-eq0 : goal.returns-then-other-eq0
returns-then-other-eq0 c =
    let m = c.args.self.now in
    let n = rows.registers (owned m) in
    let x = read_row n c.args.row.now in
    record { shows = c.requires.row; means = sym (ap (merge (program m) x) (read_unreached n c.args.other.now c.if-other-eq0.true) ∙ with_unreached (program m) x); changed = refl }

pub returns-then-row-gt-REGISTERS : goal.returns-then-row-gt-REGISTERS
returns-then-row-gt-REGISTERS c =
    let m = c.args.self.now in
    let n = rows.registers (owned m) in
    let y = read_row n c.args.other.now in
    let e = read_clash n c.args.row.now c.if-row-gt-REGISTERS.true in
    record { shows = c.requires.row; means = e ∙ sym (ap (λ (x : Merge). merge (program m) x y) e); changed = refl }

pub returns-then-row-eq0 : goal.returns-then-row-eq0
returns-then-row-eq0 c =
    let m = c.args.self.now in
    let P = program m in
    let n = rows.registers (owned m) in
    let y = read_row n c.args.other.now in
    let same = c.copy_from_slice.ensures.after in
    let low = (merge_lattice (kept_is_well_formed P m.kept)).lowest y c.requires.other.in_use in
    record {
      shows = subst (Shows P (owned m)) (sym same) c.requires.other;
      means = ap (read_row n) same ∙ sym (ap (λ (x : Merge). merge P x y) (read_unreached n c.args.row.now c.if-row-eq0.true) ∙ low);
      changed = λ e. still_unreached n c.args.other.now (omega (arith, c.if-other-eq0.false)) (sym (ap (read_row n) same) ∙ e ∙ read_unreached n c.args.row.now c.if-row-eq0.true);
    }

pub returns-then-row-other : goal.returns-then-row-other
returns-then-row-other c =
    let m = c.args.self.now in
    let P = program m in
    let M = owned m in
    let n = rows.registers M in
    let row = c.args.row.now in
    let other = c.args.other.now in
    let first = set_first row 18 c.requires.row.whole in
    let clashes = other_height P n row other c.requires.row.whole c.requires.other.whole (omega (arith, c.if-row-eq0.false)) (omega (arith, c.if-row-gt-REGISTERS.false)) (omega (arith, c.if-other-eq0.false)) c.if-row-other.true in
    let means = read_clash n (set row 0 18) (omega arith) ∙ sym clashes in
    record { shows = join_shown (kept_is_well_formed P m.kept) M (set row 0 18) (length-set row 0 18 ∙ c.requires.row.whole) (small_set row 0 18 c.requires.row.small (omega arith)) c.requires.row.in_use c.requires.other.in_use means; means = means; changed = clash_differs n row (set row 0 18) (omega arith) (omega (arith, c.if-row-eq0.false)) (omega (arith, c.if-row-gt-REGISTERS.false)) }
