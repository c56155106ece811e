-- Two lists related item by item: the same is done to both. Assumes nothing.
use Rattle.std.proofs.Common.{◌≡◌, ℕ, zero, suc, ◌+◌, ◌<◌, List, [], ◌∷◌, length, drop, set, Some, refl, ap, subst, arith}
use Rattle.std.specs.List.{slice_get, AllByRecursion}
use Rattle.jinja.specs.Order.{Pairwise, nil, cons}
use Rattle.jinja.specs.Rule.{operands, taken}
use Rattle.jinja.specs.Handlers.{lowest}
use Rattle.jinja.proofs.Options.{conflict, some_inj}

pub pairs_refl : {A : Type 0} {Q : A → Type 0} {R : A → A → Type 0} → ((a : A) → Q a → R a a) → (xs : List A) → AllByRecursion Q xs → Pairwise R xs xs
pairs_refl f [] q = nil
pairs_refl f (x ∷ xs) q = cons (f x q.0) (pairs_refl f xs q.1)

pub pairs_map : {A B : Type 0} {R S : A → B → Type 0} {xs : List A} {ys : List B} → ((a : A) (b : B) → R a b → S a b) → Pairwise R xs ys → Pairwise S xs ys
pairs_map f nil = nil
pairs_map f (cons r rs) = cons (f _ _ r) (pairs_map f rs)

pub pairs_trans : {A B C : Type 0} {R : A → B → Type 0} {S : B → C → Type 0} {T : A → C → Type 0} {xs : List A} {ys : List B} {zs : List C} → ((a : A) (b : B) (c : C) → R a b → S b c → T a c) → Pairwise R xs ys → Pairwise S ys zs → Pairwise T xs zs
pairs_trans f nil nil = nil
pairs_trans f (cons r rs) (cons s ss) = cons (f _ _ _ r s) (pairs_trans f rs ss)

module _ {A B : Type 0} {R : A → B → Type 0} where
  pub pairs_length : {xs : List A} {ys : List B} → Pairwise R xs ys → length xs ≡ length ys
  pairs_length nil = refl
  pairs_length (cons r rs) = ap suc (pairs_length rs)

  pub shorter : {xs : List A} {ys : List B} (n : ℕ) → Pairwise R xs ys → length ys < n → length xs < n
  shorter n rs l = let e = pairs_length rs in omega arith

  pub pairs_drop : (n : ℕ) {xs : List A} {ys : List B} → Pairwise R xs ys → Pairwise R (drop n xs) (drop n ys)
  pairs_drop zero rs = rs
  pairs_drop (suc n) nil = nil
  pairs_drop (suc n) (cons r rs) = pairs_drop n rs

  pub pairs_lowest : {xs : List A} {ys : List B} (d : ℕ) → Pairwise R xs ys → Pairwise R (lowest d xs) (lowest d ys)
  pairs_lowest d rs = rw (pairs_length rs) (pairs_drop _ rs)

  pub pairs_nth : {xs : List A} {ys : List B} {b : B} (i : ℕ) → Pairwise R xs ys → slice_get ys i ≡ Some b → (a : A) × (slice_get xs i ≡ Some a) × R a b
  pairs_nth i nil e = absurd (conflict e)
  pairs_nth zero (cons {a = a} r rs) e = (a, refl, subst (R a) (some_inj e) r)
  pairs_nth (suc i) (cons r rs) e = pairs_nth i rs e

  pub pairs_set : {xs : List A} {ys : List B} {a : A} {b : B} (i : ℕ) → Pairwise R xs ys → R a b → Pairwise R (set xs i a) (set ys i b)
  pairs_set i nil q = nil
  pairs_set zero (cons r rs) q = cons q rs
  pairs_set (suc i) (cons r rs) q = cons r (pairs_set i rs q)

  -- an item of the left list is replaced, as the right item allows
  pub pairs_put : {xs : List A} {ys : List B} {a : A} {b : B} (i : ℕ) → Pairwise R xs ys → slice_get ys i ≡ Some b → R a b → Pairwise R (set xs i a) ys
  pairs_put i nil e q = nil
  pairs_put {a = a} zero (cons r rs) e q = cons (subst (λ b. R a b) (ap_sym e) q) rs
    where
      ap_sym : {x y : B} → Some x ≡ Some y → y ≡ x
      ap_sym e = cc
  pairs_put (suc i) (cons r rs) e q = cons r (pairs_put i rs e q)

-- operands come off both stacks alike
pub record Taken {A B : Type 0} (R : A → B → Type 0) (n : ℕ) (xs acc : List A) (bs : List B) (b : B) (rest : List B) : Type 0 where
  pub args : List A
  pub receiver : A
  pub left : List A
  pub are : taken n xs acc ≡ Some (operands args receiver left)
  pub args_are : Pairwise R args bs
  pub receiver_is : R receiver b
  pub left_are : Pairwise R left rest

pub pairs_taken : {A B : Type 0} {R : A → B → Type 0} (n : ℕ) {xs acc : List A} {ys acc' bs rest : List B} {b : B} → Pairwise R xs ys → Pairwise R acc acc' → taken n ys acc' ≡ Some (operands bs b rest) → Taken R n xs acc bs b rest
pairs_taken zero nil q e = absurd (conflict e)
pairs_taken {R = R} zero {acc = acc} (cons {a = a} {xs = xs} r rs) q e =
    record { args = acc; receiver = a; left = xs; are = refl; args_are = subst (Pairwise R acc) (cc) q; receiver_is = subst (R a) (cc) r; left_are = subst (Pairwise R xs) (cc) rs }
pairs_taken (suc n) nil q e = absurd (conflict e)
pairs_taken (suc n) (cons r rs) q e =
    let t = pairs_taken n rs (cons r q) e in record { args = t.args; receiver = t.receiver; left = t.left; are = t.are; args_are = t.args_are; receiver_is = t.receiver_is; left_are = t.left_are }

pub taken_length : {A : Type 0} (n : ℕ) (xs acc : List A) {args left : List A} {r : A} → taken n xs acc ≡ Some (operands args r left) → length args ≡ n + length acc
taken_length zero [] acc e = absurd (conflict e)
taken_length zero (a ∷ xs) acc {args} e = let p : acc ≡ args = cc in rw (← p) (omega arith)
taken_length (suc n) [] acc e = absurd (conflict e)
taken_length (suc n) (a ∷ xs) acc e = let r = taken_length n xs (a ∷ acc) e in omega arith
