-- Numbers joined pair by pair, in the other order too. Assumes nothing.
use Rattle.std.proofs.Common.{◌≡◌, ℕ, zero, suc, Bool, true, false, ◌||◌, eqb, List, [], ◌∷◌, ◌++◌, reverse, length, take, refl, ap, ◌∙◌, arith}
use Rattle.std.proofs.lemmas.List.{reverse-append, length-reverse}
use Rattle.jinja.specs.Program.{Program}
use Rattle.type_rows.specs.Joining.{join_number, join_numbers, has_absent}
use Rattle.type_rows.specs.Numbers.{absent}

pub take_as_long : (h : ℕ) (xs ys : List ℕ) → length xs ≡ length ys → length (take h xs) ≡ length (take h ys)
take_as_long zero xs ys e = refl
take_as_long (suc h) [] [] e = refl
take_as_long (suc h) [] (y ∷ ys) e = absurd (omega arith)
take_as_long (suc h) (x ∷ xs) [] e = absurd (omega arith)
take_as_long (suc h) (x ∷ xs) (y ∷ ys) e = let l = take_as_long h xs ys (omega arith) in omega arith

module _ (P : Program) where
  push_joined : (xs ys : List ℕ) (x y : ℕ) → length xs ≡ length ys → join_numbers P (xs ++ x ∷ []) (ys ++ y ∷ []) ≡ join_numbers P xs ys ++ join_number P x y ∷ []
  push_joined [] [] x y e = refl
  push_joined [] (b ∷ ys) x y e = absurd (omega arith)
  push_joined (a ∷ xs) [] x y e = absurd (omega arith)
  push_joined (a ∷ xs) (b ∷ ys) x y e = ap (λ (zs : List ℕ). join_number P a b ∷ zs) (push_joined xs ys x y (omega arith))

  pub reverse_joined : (xs ys : List ℕ) → length xs ≡ length ys → reverse (join_numbers P xs ys) ≡ join_numbers P (reverse xs) (reverse ys)
  reverse_joined [] [] e = refl
  reverse_joined [] (y ∷ ys) e = absurd (omega arith)
  reverse_joined (x ∷ xs) [] e = absurd (omega arith)
  reverse_joined (x ∷ xs) (y ∷ ys) e =
      let p = length-reverse xs in
      let q = length-reverse ys in
      rw (reverse-append (join_number P x y ∷ []) (join_numbers P xs ys), reverse-append (x ∷ []) xs, reverse-append (y ∷ []) ys, reverse_joined xs ys (omega arith), push_joined (reverse xs) (reverse ys) x y (omega arith)) refl

absent_append : (xs ys : List ℕ) → has_absent (xs ++ ys) ≡ (has_absent xs || has_absent ys)
absent_append [] ys = refl
absent_append (x ∷ xs) ys = ap (λ (b : Bool). eqb x absent || b) (absent_append xs ys) ∙ assoc (eqb x absent) (has_absent xs) (has_absent ys)
  where
    assoc : (a b c : Bool) → (a || (b || c)) ≡ ((a || b) || c)
    assoc true b c = refl
    assoc false b c = refl

turned : (a b : Bool) → (a || (b || false)) ≡ (b || a)
turned true true = refl
turned true false = refl
turned false true = refl
turned false false = refl

pub absent_reverse : (xs : List ℕ) → has_absent (reverse xs) ≡ has_absent xs
absent_reverse [] = refl
absent_reverse (x ∷ xs) =
    ap has_absent (reverse-append (x ∷ []) xs) ∙ absent_append (reverse xs) (x ∷ []) ∙ ap (λ (b : Bool). b || (eqb x absent || false)) (absent_reverse xs) ∙ turned (has_absent xs) (eqb x absent)
