-- A row whose shown parts are joined in place: its stack cells below the height, and its registers. Assumes nothing.
use Rattle.std.proofs.Common.{◌≡◌, ℕ, ◌+◌, ◌-◌, ◌≤◌, Bool, true, false, List, [], ◌∷◌, ◌++◌, length, get_or, take, drop, MatchBool, sym, refl, ap, ◌∙◌, subst, arith}
use borrow.Rule.Slice.PartMut.{put_mid, same_len_mid}
use Rattle.std.proofs.lemmas.List.{length-drop, length-take-le}
use Rattle.std.proofs.lemmas.Slice.{drop-put_mid, between-put_mid, between_is, take-put_mid, take-put_mid_below}
use Rattle.jinja.specs.Program.{Program}
use Rattle.type_rows.specs.Joining.{join_numbers, SameNumbers}
use Rattle.type_rows.specs.Numbers.{Small}
use Rattle.type_rows.proofs.JoinedRows.{Joins}
use Rattle.type_rows.proofs.RowParts.{small_take, small_drop, small_append}

pub put_long : (a k : ℕ) (xs ys : List ℕ) → a + k ≤ length xs → length ys ≡ k → length (put_mid a k xs ys) ≡ length xs
put_long a k xs ys l e =
    let d = length-drop a xs in
    let t = length-take-le k (drop a xs) (omega arith) in
    same_len_mid a k xs ys (e ∙ sym t)

pub small_put : (a k : ℕ) (xs ys : List ℕ) → Small xs → Small ys → Small (put_mid a k xs ys)
small_put a k xs ys s t = small_append (take a xs) (ys ++ drop k (drop a xs)) (small_take a xs s) (small_append ys (drop k (drop a xs)) t (small_drop k (drop a xs) (small_drop a xs s)))

first_kept : (h n : ℕ) (xs js ks : List ℕ) → length xs ≡ 33 → get_or (put_mid 17 n (put_mid 1 h xs js) ks) 0 0 ≡ get_or xs 0 0
first_kept h n [] js ks l = absurd (omega arith)
first_kept h n (x ∷ xs) js ks l = refl

behind_first : (xs js : List ℕ) → length xs ≡ 33 → drop 1 (take 1 xs ++ js) ≡ js
behind_first [] js l = absurd (omega arith)
behind_first (x ∷ xs) js l = refl

-- the stack is written first, then the registers
module _ (h n : ℕ) (xs js ks : List ℕ) (whole : length xs ≡ 33) (low : h ≤ 16) (narrow : n ≤ 16) (p : length js ≡ h) (q : length ks ≡ n) where
  abbrev with_stack : List ℕ
  with_stack = put_mid 1 h xs js

  abbrev put : List ℕ
  put = put_mid 17 n with_stack ks

  stack_long : length with_stack ≡ 33
  stack_long = put_long 1 h xs js (omega arith) p ∙ whole

  pub both_long : length put ≡ 33
  both_long = let l = stack_long in put_long 17 n with_stack ks (omega arith) q ∙ l

  stack_put : take h (drop 1 put) ≡ js
  stack_put =
      let l = stack_long in
      let z : (1 + h) - 1 ≡ h = omega arith in
      ap (λ (a : ℕ). take a (drop 1 put)) (sym z) ∙ between_is put 1 (1 + h)
      ∙ ap (drop 1) (take-put_mid_below 17 n with_stack ks (1 + h) (omega arith) (omega arith) ∙ take-put_mid 1 h xs js (1 + h) (omega arith) (omega arith))
      ∙ behind_first xs js whole

  registers_put : take n (drop 17 put) ≡ ks
  registers_put =
      let l = stack_long in
      let z : (17 + n) - 17 ≡ n = omega arith in
      ap (λ (a : ℕ). take a (drop 17 put)) (sym z) ∙ between-put_mid 17 n with_stack ks (17 + n) (omega arith) (omega arith)

  registers_were : drop 17 with_stack ≡ drop 17 xs
  registers_were = drop-put_mid 1 h xs js 17 (omega arith) (omega arith) p

  pub joined_in_place : (P : Program) (ys : List ℕ) → js ≡ join_numbers P (take h (drop 1 xs)) (take h (drop 1 ys)) → ks ≡ join_numbers P (take n (drop 17 with_stack)) (take n (drop 17 ys)) → Joins P h n xs ys put
  joined_in_place P ys e f = record {
    first = first_kept h n xs js ks whole;
    stack = stack_put ∙ e;
    registers = registers_put ∙ f ∙ ap (λ (l : List ℕ). join_numbers P (take n l) (take n (drop 17 ys))) registers_were;
  }

  -- word of changed stack cells, and where they are the same, of changed registers
  module _ (a : Bool) (s : MatchBool a (js ≡ take h (drop 1 xs) → ⊥) (js ≡ take h (drop 1 xs))) where
    pub stack_told : a ≡ true → SameNumbers h n xs put → ⊥
    stack_told e same = subst (λ (b : Bool). MatchBool b (js ≡ take h (drop 1 xs) → ⊥) (js ≡ take h (drop 1 xs))) e s (sym stack_put ∙ sym same.stack)

    pub registers_told : a ≡ false → (b : Bool) → MatchBool b (ks ≡ take n (drop 17 with_stack) → ⊥) (ks ≡ take n (drop 17 with_stack)) → MatchBool b (SameNumbers h n xs put → ⊥) (SameNumbers h n xs put)
    registers_told e true r = λ same. r (sym registers_put ∙ sym same.registers ∙ sym (ap (take n) registers_were))
    registers_told e false r =
        let t = subst (λ (b : Bool). MatchBool b (js ≡ take h (drop 1 xs) → ⊥) (js ≡ take h (drop 1 xs))) e s in
        record { stack = sym t ∙ sym stack_put; registers = sym (ap (take n) registers_were) ∙ sym r ∙ sym registers_put }
