-- Look-ups: what was found, and lists by position. Assumes nothing.
use Rattle.std.proofs.Common.{◌≡◌, ℕ, zero, suc, ◌+◌, ◌<◌, List, [], ◌∷◌, ◌++◌, map, length, Some, None, Option, refl, ap, subst, suc-add, zero-add, arith}
use Rattle.std.specs.List.{slice_get, AllByRecursion}
use Rattle.jinja.specs.Classes.{maybe}

pub conflict : {A : Type 0} {a : A} → None ≡ Some a → ⊥
conflict e = let z : ◌≡◌ {A = ℕ} 0 1 = cc in omega arith

pub some_inj : {A : Type 0} {a b : A} → Some a ≡ Some b → a ≡ b
some_inj e = cc

pub maybe_found : {A B : Type 0} (o : Option A) (f : A → Option B) {b : B} → maybe o None f ≡ Some b → (a : A) × (o ≡ Some a) × (f a ≡ Some b)
maybe_found None f e = absurd (conflict e)
maybe_found (Some a) f e = (a, refl, e)

pub nth_inside : {A : Type 0} (xs : List A) (i : ℕ) → i < length xs → (a : A) × (slice_get xs i ≡ Some a)
nth_inside [] i l = absurd (omega arith)
nth_inside (x ∷ xs) zero l = (x, refl)
nth_inside (x ∷ xs) (suc i) l = nth_inside xs i (omega arith)

pub all_nth : {A : Type 0} (Q : A → Type 0) (xs : List A) (i : ℕ) {a : A} → AllByRecursion Q xs → slice_get xs i ≡ Some a → Q a
all_nth Q [] i q e = absurd (conflict e)
all_nth Q (x ∷ xs) zero q e = subst Q (some_inj e) q.0
all_nth Q (x ∷ xs) (suc i) q e = all_nth Q xs i q.1 e

pub nth_front : {A : Type 0} (xs ys : List A) (i : ℕ) {a : A} → slice_get xs i ≡ Some a → slice_get (xs ++ ys) i ≡ Some a
nth_front [] ys i e = absurd (conflict e)
nth_front (x ∷ xs) ys zero e = e
nth_front (x ∷ xs) ys (suc i) e = nth_front xs ys i e

pub nth_back : {A : Type 0} (xs ys : List A) (i : ℕ) → slice_get (xs ++ ys) (length xs + i) ≡ slice_get ys i
nth_back [] ys i = rw zero-add
nth_back (x ∷ xs) ys i = rw suc-add (nth_back xs ys i)

pub nth_map : {A B : Type 0} (f : A → B) (xs : List A) (i : ℕ) {a : A} → slice_get xs i ≡ Some a → slice_get (map f xs) i ≡ Some (f a)
nth_map f [] i e = absurd (conflict e)
nth_map f (x ∷ xs) zero e = ap (λ z. Some (f z)) (some_inj e)
nth_map f (x ∷ xs) (suc i) e = nth_map f xs i e
