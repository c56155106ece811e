-- Arguments: the operands that a call takes from the frame below, and the registers that a frame starts with. Assumes nothing.
use Rattle.std.proofs.Common.{◌≡◌, ℕ, ◌+◌, ◌-◌, ◌≤◌, List, [], ◌∷◌, ◌++◌, reverse, length, take, drop, set, replicate, sym, ap, ◌∙◌, length-append, arith}
use borrow.Rule.Slice.PartMut.{put_mid, post_of}
use Rattle.std.proofs.lemmas.List.{reverse-append, reverse-reverse, length-reverse, length-drop, length-take-le, length-replicate, take-append-drop, take_at}
use Rattle.std.proofs.lemmas.Slice.{take-put_mid, drop-put_mid}
use Rattle.heap.specs.declared.value.Value.{Value}
use Rattle.heap.specs.declared.value.Value.TheVariants as value
use Rattle.stack.specs.Stacked.{held}
use Rattle.engine.specs.Calling.{arguments}

pub arguments_length : {X : Type 0} (n : ℕ) (st : List X) → n ≤ length st → length (arguments n st) ≡ n
arguments_length n st l = length-reverse (take n st) ∙ length-take-le n st l

-- the arguments stand in the cells in their order
pub arguments_held : {X : Type 0} (xs : List X) (h n : ℕ) → n ≤ h → h ≤ length xs → arguments n (held xs h) ≡ drop (h - n) (take h xs)
arguments_held xs h n l m =
    let ys = take h xs in
    let upper = drop (h - n) ys in
    let all = length-take-le h xs m in
    let count : length (reverse upper) ≡ n = length-reverse upper ∙ length-drop (h - n) ys ∙ omega (arith, all) in
    let parts = ap reverse (sym (take-append-drop (h - n) ys)) ∙ reverse-append (take (h - n) ys) upper in
    ap (λ zs. reverse (take n zs)) parts ∙ ap reverse (take_at (reverse upper) (reverse (take (h - n) ys)) n count) ∙ reverse-reverse upper

-- the registers of a frame that starts: its object, the arguments, and Unit in those behind them
pub fresh_registers : (rs args given units : List Value) (this extras j k : ℕ) → 1 + length args + extras ≤ length rs → given ≡ args → j ≡ length args → k ≡ extras → units ≡ replicate (length (take k (drop (1 + length args) (put_mid 1 j (set rs 0 (value.Addr this)) given)))) value.Unit → take (1 + length args + extras) (put_mid (1 + length args) k (put_mid 1 j (set rs 0 (value.Addr this)) given) units) ≡ value.Addr this ∷ args ++ replicate extras value.Unit
fresh_registers [] args given units this extras j k l e f g h = absurd (omega arith)
fresh_registers (r ∷ rs) args given units this extras j k l e f g h =
    let n = length args in
    let S : List Value = value.Addr this ∷ rs in
    let X = put_mid 1 j S given in
    let m : length given ≡ n = ap length e in
    let behind : drop (1 + n) X ≡ drop (1 + n) S = drop-put_mid 1 j S given (1 + n) (omega arith) (omega arith) (omega arith) in
    let room = length-drop (1 + n) S in
    let count : length (take k (drop (1 + n) X)) ≡ extras = ap (λ ys. length (take k ys)) behind ∙ length-take-le k (drop (1 + n) S) (omega (arith, room)) ∙ g in
    let filled : units ≡ replicate extras value.Unit = h ∙ ap (λ i. replicate i value.Unit) count in
    let all = ap length filled ∙ length-replicate extras value.Unit in
    let whole = length-append (take 1 S) (given ++ post_of 1 j S) in
    let part = length-append given (post_of 1 j S) in
    take-put_mid (1 + n) k X units (1 + n + extras) (omega (arith, all)) (omega (arith, whole, part))
    ∙ ap (λ ys. ys ++ units) (take-put_mid 1 j S given (1 + n) (omega arith) (omega arith))
    ∙ ap (λ ys. value.Addr this ∷ ys) (ap (λ ys. ys ++ units) e ∙ ap (λ us. args ++ us) filled)
