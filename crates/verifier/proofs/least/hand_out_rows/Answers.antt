-- Row by row.
use Rattle.std.proofs.Common.{◌≡◌, ℕ, ◌+◌, ◌-◌, ◌*◌, ◌≤◌, List, length, take, drop, ap, ◌∙◌, arith, rules}
use Rattle.walk.specs.Rows.{table}
use Rattle.jinja.specs.Rows as rows
use Rattle.type_rows.specs.Frameworks.{method_framework}
use Rattle.type_rows.specs.Numbers.{read_row, row_numbers}
use Rattle.type_rows.specs.Stepping.{owned}
use Rattle.type_rows.specs.Typings.{row_of, rows_of}
use Rattle.verifier.proofs.Handed.{row_more, rest_same}
use Rattle.verifier.proofs.least.hand_out_rows.Goals as goal

pub loop-i-preserved : goal.loop-i-preserved
loop-i-preserved c =
    let m = c.args.method.now in
    let was = c.args.workspace.now in
    let ws = c.loop-i.workspace in
    let i = c.loop-i.i in
    let y = c.hand_out.new.row in
    let k = (i * 33 + 33) - i * 33 in
    let width : k ≡ 33 = omega arith in
    let room : i * 33 + 33 ≤ length ws = omega (arith, c.loop-i-test.true, c.count-i-end.ensures, c.requires, c.loop-i.auto.workspace) in
    let long : length y ≡ 33 = search rules in
    let n = rows.registers (owned m) in
    let shown = c.hand_out.ensures ∙ ap (λ (j : ℕ). row_numbers (row_of (read_row n (take j (drop (i * 33) ws))))) width ∙ ap (λ (l : List ℕ). row_numbers (row_of (read_row n (take 33 l)))) c.loop-i.invariant.1 in
    let T = rows_of (table (method_framework m) was) in
    (row_more T ws was y i room long k c.loop-i.invariant.0 shown, rest_same T ws was y i room long k width c.loop-i.invariant.1)
