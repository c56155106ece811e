-- The parts of a row of numbers: its first number, its stack cells and its registers. Assumes nothing.
use Rattle.std.proofs.Common.{◌≡◌, ℕ, zero, suc, List, [], ◌∷◌, ◌++◌, length, take, drop, set, ap, ◌∙◌, arith}
use borrow.Rule.Slice.PartMut.{put_mid}
use Rattle.type_rows.specs.Numbers.{Small}
use Rattle.std.proofs.lemmas.List.{append-nil, take_at, drop_at, drop_all, length-drop}

-- a row that is written part by part
pub row_of_parts : (xs : List ℕ) (a : ℕ) (ys zs : List ℕ) → length xs ≡ 33 → length ys ≡ 16 → length zs ≡ 16 → put_mid 17 16 (put_mid 1 16 (set xs 0 a) ys) zs ≡ a ∷ (ys ++ zs)
row_of_parts [] a ys zs n p q = absurd (omega arith)
row_of_parts (x ∷ xs) a ys zs n p q =
    let rest = drop 16 xs in
    let e : drop 16 (drop 16 (ys ++ rest)) ≡ [] = ap (drop 16) (drop_at ys rest 16 p) ∙ drop_all 16 rest (let l = length-drop 16 xs in omega arith) in
    rw (take_at ys rest 16 p, e, append-nil zs)

pub small_take : (h : ℕ) (xs : List ℕ) → Small xs → Small (take h xs)
small_take zero xs s k = omega arith
small_take (suc h) [] s k = omega arith
small_take (suc h) (x ∷ xs) s zero = s 0
small_take (suc h) (x ∷ xs) s (suc k) = small_take h xs (λ j. s (suc j)) k

pub small_drop : (h : ℕ) (xs : List ℕ) → Small xs → Small (drop h xs)
small_drop zero xs s k = s k
small_drop (suc h) [] s k = omega arith
small_drop (suc h) (x ∷ xs) s k = small_drop h xs (λ j. s (suc j)) k

pub small_append : (xs ys : List ℕ) → Small xs → Small ys → Small (xs ++ ys)
small_append [] ys s t k = t k
small_append (x ∷ xs) ys s t zero = s 0
small_append (x ∷ xs) ys s t (suc k) = small_append xs ys (λ j. s (suc j)) t k
