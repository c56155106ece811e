-- What is held after a push, without the top, and below it. Assumes nothing.
use Rattle.std.proofs.Common.{◌≡◌, ℕ, ◌+◌, ◌-◌, ◌<◌, ◌≤◌, List, [], ◌∷◌, ◌++◌, reverse, length, get_or, take, drop, set, sym, ap, ◌∙◌, arith}
use Rattle.std.proofs.lemmas.List.{take_more, take_more_set, take-take, take-append-drop, drop_at, reverse-append, length-reverse, length-take-le, length-drop}
use Rattle.stack.specs.Stacked.{held}

pub held_push : {X : Type 0} (xs : List X) (h : ℕ) (x : X) → h < length xs → held (set xs h x) (h + 1) ≡ x ∷ held xs h
held_push xs h x l = ap reverse (take_more_set xs h x l) ∙ reverse-append (take h xs) (x ∷ [])

pub held_top : {X : Type 0} (xs : List X) (h : ℕ) (d : X) → 0 < h → h ≤ length xs → held xs h ≡ get_or xs (h - 1) d ∷ held xs (h - 1)
held_top xs h d p l =
    let e : h ≡ (h - 1) + 1 = omega arith in
    ap (held xs) e ∙ ap reverse (take_more xs (h - 1) d (omega arith)) ∙ reverse-append (take (h - 1) xs) (get_or xs (h - 1) d ∷ [])

-- what is left without the n topmost cells
pub held_drop : {X : Type 0} (xs : List X) (h n : ℕ) → n ≤ h → h ≤ length xs → drop n (held xs h) ≡ held xs (h - n)
held_drop xs h n l m =
    let all = take h xs in
    let low = take (h - n) all in
    let high = drop (h - n) all in
    let long : length all ≡ h = length-take-le h xs m in
    let size = length-drop (h - n) all in
    let e : length (reverse high) ≡ n = length-reverse high ∙ omega arith in
    let split : reverse all ≡ reverse high ++ reverse low = ap reverse (sym (take-append-drop (h - n) all)) ∙ reverse-append low high in
    ap (drop n) split ∙ drop_at (reverse high) (reverse low) n e ∙ ap reverse (take-take (h - n) h xs (omega arith))

-- a cell that was read, with i cells above it
pub held_below : {X : Type 0} (xs : List X) (h i : ℕ) (x : X) → i < h → h ≤ length xs → x ≡ get_or xs (h - 1 - i) x → drop i (held xs h) ≡ x ∷ held xs (h - (i + 1))
held_below xs h i x l m e =
    let p : h - i - 1 ≡ h - 1 - i = omega arith in
    let q : h - i - 1 ≡ h - (i + 1) = omega arith in
    held_drop xs h i (omega arith) m ∙ held_top xs (h - i) x (omega arith) (omega arith)
    ∙ ap (λ n. get_or xs n x ∷ held xs (h - i - 1)) p ∙ ap (λ y. y ∷ held xs (h - i - 1)) (sym e) ∙ ap (λ n. x ∷ held xs n) q
