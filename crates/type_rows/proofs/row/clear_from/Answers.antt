-- Nothing lies behind the numbers that are cleared.
use Rattle.std.proofs.Common.{ℕ, ◌-◌, List, ◌++◌, length, take, drop, replicate, ap, ◌∙◌, arith}
use Rattle.std.proofs.lemmas.List.{append-nil, drop_all, length-drop, length-take-le}
use Rattle.type_rows.specs.Numbers.{absent}
use Rattle.type_rows.proofs.row.clear_from.Goals as goal

pub returns : goal.returns
returns c =
    let xs = c.args.cells.now in
    let k = c.args.k in
    let d = length-drop k xs in
    let n = length-take-le (length xs - k) (drop k xs) (omega arith) in
    ap (λ (l : List ℕ). take k xs ++ (c.clear.new.row ++ l)) (drop_all (length xs - k) (drop k xs) (omega arith))
    ∙ ap (λ (l : List ℕ). take k xs ++ l) (append-nil c.clear.new.row ∙ c.clear.ensures ∙ ap (λ (a : ℕ). replicate a absent) n)
