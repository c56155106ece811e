-- By the first number: nothing is shown, or the stack cells below the height and the registers.
use Rattle.std.proofs.Common.{◌≡◌, ℕ, ◌-◌, List, ◌++◌, length, get_or, take, replicate, ap, ◌∙◌, inl, inr, arith, rules}
use Rattle.std.proofs.lemmas.Slice.{drop-put_mid}
use Rattle.jinja.specs.Rows as rows
use Rattle.type_rows.specs.Numbers.{absent, stack_part, register_part}
use Rattle.type_rows.specs.Stepping.{owned}
use Rattle.type_rows.proofs.HandedOut.{none_handed, row_handed}
use Rattle.type_rows.proofs.method.Method.hand_out.Goals as goal

pub returns-in-Unreached : goal.returns-in-Unreached
returns-in-Unreached c =
    let m = c.args.self.now in
    c.write_unreached.ensures ∙ none_handed (rows.registers (owned m)) c.args.row.now c.requires (inl c.in-Unreached.ensures)

pub returns-in-Clash : goal.returns-in-Clash
returns-in-Clash c =
    let m = c.args.self.now in
    c.write_unreached-in-Clash.ensures ∙ none_handed (rows.registers (owned m)) c.args.row.now c.requires (inr c.in-Clash.ensures)

pub returns-in-Reached : goal.returns-in-Reached
returns-in-Reached c =
    let m = c.args.self.now in
    let n = rows.registers (owned m) in
    let xs = c.args.row.now in
    let ys = c.clear_from.new.cells in
    let zs = c.clear_from-in-Reached.new.cells in
    let r = c.in-Reached.ensures in
    let high : c.in-Reached.height ≡ get_or xs 0 0 - 1 = omega (arith, r.2) in
    let p : length ys ≡ 16 = search rules in
    let q : length zs ≡ 16 = search rules in
    let behind = drop-put_mid 1 16 xs ys 17 (omega arith) (omega (arith, c.requires)) p in
    let stack = ap (λ (k : ℕ). take k (stack_part xs) ++ replicate (length (stack_part xs) - k) absent) high in
    let registers = ap (λ (l : List ℕ). take m.registers (take 16 l) ++ replicate (length (take 16 l) - m.registers) absent) behind ∙ ap (λ (k : ℕ). take k (register_part xs) ++ replicate (length (register_part xs) - k) absent) m.wide in
    row_handed n xs c.requires (omega (arith, m.narrow, m.wide)) r.0 r.1 ys zs p q (c.clear_from.ensures ∙ stack) (c.clear_from-in-Reached.ensures ∙ registers)
