-- What look-ups in lists, classes and methods have found. Assumes nothing.
use Rattle.std.proofs.Common.{◌≡◌, ℕ, zero, suc, ◌+◌, ◌<◌, Bool, true, false, cond, eqb, ◌⊎◌, List, [], ◌∷◌, ◌++◌, map, length, take, Some, None, Option, sym, refl, ap, ◌∙◌, inl, inr, add-zero, zero-add, arith}
use Rattle.std.specs.List.{slice_get}
use Rattle.std.proofs.lemmas.List.{length-map}
use Rattle.std.proofs.lemmas.Bool.{eqb-true}
use Rattle.jinja.specs.Program.{MethodDecl, ClassDecl, Program}
use Rattle.jinja.specs.Classes.{maybe, table, class_at, superclass_of}
use Rattle.jinja.specs.Lookups.{position, own_methods, Owned, methods_from, method_at, count_methods, own_method, sees_within}
use Rattle.jinja.proofs.Options.{conflict, some_inj, maybe_found, nth_front, nth_back, nth_map}

pub nth_in_front : {A : Type 0} (xs ys : List A) (i : ℕ) → i < length xs → slice_get (xs ++ ys) i ≡ slice_get xs i
nth_in_front [] ys i l = absurd (omega arith)
nth_in_front (x ∷ xs) ys zero l = refl
nth_in_front (x ∷ xs) ys (suc i) l = nth_in_front xs ys i (omega arith)

nth_either : {A : Type 0} (xs ys : List A) (i : ℕ) {a : A} → slice_get (xs ++ ys) i ≡ Some a → (slice_get xs i ≡ Some a) ⊎ ((j : ℕ) × (i ≡ length xs + j) × (slice_get ys j ≡ Some a))
nth_either [] ys i e = inr (i, sym (zero-add i), e)
nth_either (x ∷ xs) ys zero e = inl e
nth_either (x ∷ xs) ys (suc i) e = elim (nth_either xs ys i e) [ inl h ↦ inl h | inr h ↦ inr (h.0, omega (arith, h.1), h.2) ]

nth_of_map : {A B : Type 0} (f : A → B) (xs : List A) (i : ℕ) {b : B} → slice_get (map f xs) i ≡ Some b → (a : A) × (slice_get xs i ≡ Some a) × (f a ≡ b)
nth_of_map f [] i e = absurd (conflict e)
nth_of_map f (x ∷ xs) zero e = (x, refl, some_inj e)
nth_of_map f (x ∷ xs) (suc i) e = nth_of_map f xs i e

-- an item that was found by its name
position_found : {A : Type 0} (name : A → ℕ) (n : ℕ) (xs : List A) {i : ℕ} → position name n xs ≡ Some i → (x : A) × (slice_get xs i ≡ Some x) × (name x ≡ n)
position_found name n [] e = absurd (conflict e)
position_found {A} name n (x ∷ xs) {i} e = go (eqb (name x) n) refl e (λ j q. position_found name n xs q)
  where
    go : (b : Bool) → eqb (name x) n ≡ b → cond b (Some 0) (maybe (position name n xs) None (λ j. Some (suc j))) ≡ Some i → ((j : ℕ) → position name n xs ≡ Some j → (y : A) × (slice_get xs j ≡ Some y) × (name y ≡ n)) → (y : A) × (slice_get (x ∷ xs) i ≡ Some y) × (name y ≡ n)
    go true t q ih = let z : 0 ≡ i = some_inj q in rw (← z) (x, refl, eqb-true _ _ t)
    go false t q ih = let r = maybe_found (position name n xs) (λ j. Some (suc j)) q in let z : suc r.0 ≡ i = some_inj r.2 in rw (← z) (ih r.0 r.1)

abbrev owned_by : ℕ → MethodDecl → Owned
owned_by c m = record { owner = c; method = m }

-- the methods of the classes before come first
method_placed : (b c j : ℕ) (ds : List ClassDecl) {d : ClassDecl} {x : MethodDecl} → slice_get ds c ≡ Some d → slice_get d.methods j ≡ Some x → slice_get (methods_from b ds) (count_methods (take c ds) + j) ≡ Some (owned_by (b + c) x)
method_placed b c j [] e q = absurd (conflict e)
method_placed b zero j (d ∷ ds) {x = x} e q =
    rw (zero-add, add-zero) (nth_front (map (owned_by b) d.methods) _ j (nth_map (owned_by b) d.methods j (rw (some_inj e) q)))
method_placed b (suc c) j (d ∷ ds) {x = x} e q =
    let l : length (map (owned_by b) d.methods) ≡ length d.methods = length-map d.methods (owned_by b) in
    let n : length d.methods + count_methods (take c ds) + j ≡ length (map (owned_by b) d.methods) + (count_methods (take c ds) + j) = omega arith in
    let m : b + suc c ≡ suc b + c = omega arith in
    rw (n, m) (nth_back (map (owned_by b) d.methods) (methods_from (suc b) ds) (count_methods (take c ds) + j) ∙ method_placed (suc b) c j ds e q)

-- each method is one of a class
pub method_of_class : (b k : ℕ) (ds : List ClassDecl) {N : Owned} → slice_get (methods_from b ds) k ≡ Some N → (c : ℕ) × (d : ClassDecl) × (j : ℕ) × (slice_get ds c ≡ Some d) × (slice_get d.methods j ≡ Some N.method)
method_of_class b k [] e = absurd (conflict e)
method_of_class b k (d ∷ ds) {N} e = elim (nth_either (map (owned_by b) d.methods) (methods_from (suc b) ds) k e) [
  | inl h ↦ (let w = nth_of_map (owned_by b) d.methods k h in (0, d, k, refl, w.1 ∙ ap (λ (o : Owned). Some o.method) w.2))
  | inr h ↦ (let w = method_of_class (suc b) h.0 ds h.2 in (suc w.0, w.1, w.2, w.3, w.4))
]

-- classes behind others do not move the methods before them
pub methods_front : (b k : ℕ) (ds es : List ClassDecl) {N : Owned} → slice_get (methods_from b ds) k ≡ Some N → slice_get (methods_from b (ds ++ es)) k ≡ Some N
methods_front b k [] es e = absurd (conflict e)
methods_front b k (d ∷ ds) es e =
    let own : List Owned = map (owned_by b) d.methods in
    elim (nth_either own (methods_from (suc b) ds) k e) [
      | inl h ↦ nth_front own _ k h
      | inr h ↦ rw h.1 (nth_back own (methods_from (suc b) (ds ++ es)) h.0 ∙ methods_front (suc b) h.0 ds es h.2)
    ]

-- what is known of the method that a class itself declares
pub record Own (P : Program) (c m k : ℕ) : Type 0 where
  pub class : ClassDecl
  pub index : ℕ
  pub method : MethodDecl
  pub declared : class_at P c ≡ Some class
  pub stands : slice_get class.methods index ≡ Some method
  pub name : method.name ≡ m
  pub numbered : method_at P k ≡ Some (owned_by (0 + c) method)

pub own_found : (P : Program) (c m : ℕ) {k : ℕ} → own_method P c m ≡ Some k → Own P c m k
unfolding own_method method_at
own_found P c m {k} e =
    let a = maybe_found (position (λ (x : MethodDecl). x.name) m (own_methods P c)) (λ j. Some (count_methods (take c (table P)) + j)) e in
    let x = position_found (λ (x : MethodDecl). x.name) m (own_methods P c) a.1 in
    go (class_at P c) refl a.0 (some_inj a.2) x.0 x.1 x.2
  where
    go : (o : Option ClassDecl) → class_at P c ≡ o → (j : ℕ) → count_methods (take c (table P)) + j ≡ k → (x : MethodDecl) → slice_get (maybe o [] (λ d. d.methods)) j ≡ Some x → x.name ≡ m → Own P c m k
    go None q j z x e n = absurd (conflict e)
    go (Some d) q j z x e n = record { class = d; index = j; method = x; declared = q; stands = e; name = n; numbered = rw (← z) (method_placed 0 c j (table P) q e) }

-- a method that is seen is declared by a class
pub seen_declared : (P : Program) (b c m : ℕ) {k : ℕ} → sees_within P b c m ≡ Some k → (d : ℕ) × (own_method P d m ≡ Some k)
seen_declared P zero c m e = (c, e)
seen_declared P (suc b) c m {k} e = go (own_method P c m) refl e (seen_declared P b (superclass_of P c) m)
  where
    go : (o : Option ℕ) → own_method P c m ≡ o → maybe o (sees_within P b (superclass_of P c) m) (λ i. Some i) ≡ Some k
        → (sees_within P b (superclass_of P c) m ≡ Some k → (d : ℕ) × (own_method P d m ≡ Some k)) → (d : ℕ) × (own_method P d m ≡ Some k)
    go None q e above = above e
    go (Some i) q e above = (c, q ∙ e)
