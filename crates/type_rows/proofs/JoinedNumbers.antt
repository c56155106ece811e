-- Cells joined in place, one after another, with word whether that changed one. Assumes nothing.
use Rattle.std.proofs.Common.{◌≡◌, ℕ, zero, suc, ◌+◌, ◌<◌, ◌≤◌, Bool, true, List, [], ◌∷◌, length, get_or, set, MatchBool, sym, refl, ap, ◌∙◌, subst, arith}
use Rattle.std.proofs.lemmas.List.{get_or-set_same, set-get_or}
use Rattle.jinja.specs.Program.{Program}
use Rattle.type_rows.specs.Joining.{join_number, join_numbers}
use Rattle.type_rows.specs.Numbers.{largest, Small}
use Rattle.type_rows.proofs.Cells.{small_set, small_same}

-- the first k are joined
abbrev pub joined_so_far : Program → List ℕ → List ℕ → ℕ → List ℕ
joined_so_far P [] ys k = []
joined_so_far P (x ∷ xs) ys zero = x ∷ xs
joined_so_far P (x ∷ xs) [] (suc k) = []
joined_so_far P (x ∷ xs) (y ∷ ys) (suc k) = join_number P x y ∷ joined_so_far P xs ys k

module _ (P : Program) where
  pub none_joined : (xs ys : List ℕ) → joined_so_far P xs ys 0 ≡ xs
  none_joined [] ys = refl
  none_joined (x ∷ xs) ys = refl

  one_more_joined : (xs ys : List ℕ) (k : ℕ) → length xs ≡ length ys → k < length xs → set (joined_so_far P xs ys k) k (join_number P (get_or (joined_so_far P xs ys k) k 0) (get_or ys k 0)) ≡ joined_so_far P xs ys (suc k)
  one_more_joined [] ys k e l = absurd (omega arith)
  one_more_joined (x ∷ xs) [] k e l = absurd (omega arith)
  one_more_joined (x ∷ xs) (y ∷ ys) zero e l = rw (none_joined xs ys)
  one_more_joined (x ∷ xs) (y ∷ ys) (suc k) e l = ap (λ (zs : List ℕ). join_number P x y ∷ zs) (one_more_joined xs ys k (omega arith) (omega arith))

  step_joined : (xs ys cells : List ℕ) (k r : ℕ) → cells ≡ joined_so_far P xs ys k → length xs ≡ length ys → k < length xs → r ≡ join_number P (get_or cells k 0) (get_or ys k 0) → set cells k r ≡ joined_so_far P xs ys (k + 1)
  step_joined xs ys cells k r q e l j =
      let z : suc k ≡ k + 1 = omega arith in
      ap (set cells k) j ∙ ap (λ (a : List ℕ). set a k (join_number P (get_or a k 0) (get_or ys k 0))) q ∙ one_more_joined xs ys k e l ∙ ap (joined_so_far P xs ys) z

  not_yet_joined : (xs ys : List ℕ) (k : ℕ) → length xs ≡ length ys → get_or (joined_so_far P xs ys k) k 0 ≡ get_or xs k 0
  not_yet_joined [] ys k e = refl
  not_yet_joined (x ∷ xs) ys zero e = refl
  not_yet_joined (x ∷ xs) [] (suc k) e = absurd (omega arith)
  not_yet_joined (x ∷ xs) (y ∷ ys) (suc k) e = not_yet_joined xs ys k (omega arith)

  -- the first k cells are joined, with word whether that changed one
  pub record JoinedSoFar (xs ys : List ℕ) (k : ℕ) (cells : List ℕ) (changed : Bool) : Type 0 where
    pub so_far : cells ≡ joined_so_far P xs ys k
    pub small : Small cells
    pub told : MatchBool changed (cells ≡ xs → ⊥) (cells ≡ xs)

  module _ (xs ys cells : List ℕ) (k : ℕ) (changed : Bool) (r : ℕ) (so : JoinedSoFar xs ys k cells changed) (e : length xs ≡ length ys) (l : k < length xs) (long : length cells ≡ length xs) (j : r ≡ join_number P (get_or cells k 0) (get_or ys k 0)) (s : r ≤ largest) where
    pub other_joined : (cells' : List ℕ) (changed' : Bool) → (r ≡ get_or cells k 0 → ⊥) → cells' ≡ set cells k r → changed' ≡ true → JoinedSoFar xs ys (k + 1) cells' changed'
    other_joined cells' changed' ne p q =
        let here : get_or cells' k 0 ≡ r = ap (λ (c : List ℕ). get_or c k 0) p ∙ get_or-set_same cells k r 0 (omega arith) in
        let was : get_or cells k 0 ≡ get_or xs k 0 = ap (λ (c : List ℕ). get_or c k 0) so.so_far ∙ not_yet_joined xs ys k e in
        record {
          so_far = p ∙ step_joined xs ys cells k r so.so_far e l j;
          small = small_same cells' (set cells k r) p (small_set cells k r so.small s);
          told = subst (λ (b : Bool). MatchBool b (cells' ≡ xs → ⊥) (cells' ≡ xs)) (sym q) (λ f. ne (sym here ∙ ap (λ (c : List ℕ). get_or c k 0) f ∙ sym was));
        }

    pub same_joined : (cells' : List ℕ) (changed' : Bool) → r ≡ get_or cells k 0 → cells' ≡ cells → changed' ≡ changed → JoinedSoFar xs ys (k + 1) cells' changed'
    same_joined cells' changed' f p q =
        record {
          so_far = p ∙ sym (ap (set cells k) f ∙ set-get_or cells k 0) ∙ step_joined xs ys cells k r so.so_far e l j;
          small = small_same cells' cells p so.small;
          told = subst (λ (c : List ℕ). MatchBool changed' (c ≡ xs → ⊥) (c ≡ xs)) (sym p) (subst (λ (b : Bool). MatchBool b (cells ≡ xs → ⊥) (cells ≡ xs)) (sym q) so.told);
        }

  pub all_joined : (xs ys : List ℕ) (k : ℕ) → length xs ≡ length ys → length xs ≤ k → joined_so_far P xs ys k ≡ join_numbers P xs ys
  all_joined [] ys k e l = refl
  all_joined (x ∷ xs) [] k e l = absurd (omega arith)
  all_joined (x ∷ xs) (y ∷ ys) zero e l = absurd (omega arith)
  all_joined (x ∷ xs) (y ∷ ys) (suc k) e l = ap (λ (zs : List ℕ). join_number P x y ∷ zs) (all_joined xs ys k (omega arith) (omega arith))
