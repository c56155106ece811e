-- A class has the fields and sees the methods of the classes above it. Assumes nothing.
use Rattle.std.proofs.Common.{◌≡◌, ℕ, zero, suc, ◌+◌, ◌≤◌, Bool, true, false, cond, eqb, List, [], ◌∷◌, ◌++◌, map, length, take, Some, None, Option, sym, refl, ap, ◌∙◌, subst, ⊎_elim, add-zero, zero-add, arith}
use Rattle.std.specs.List.{slice_get}
use Rattle.std.proofs.lemmas.Option.{slice_get_past, slice_get_within}
use Rattle.std.proofs.lemmas.Bool.{cases_lt, eqb-true, eq-eqb, and_parts, and_from, false≢true}
use Rattle.jinja.specs.declared.ty.Ty.{Ty}
use Rattle.jinja.specs.declared.ty.Ty.TheVariants.{Void, Boolean, Integer, NullType, Class}
use Rattle.jinja.specs.declared.program.Field.{Field}
use Rattle.jinja.specs.declared.program.FieldPlace.{FieldPlace}
use Rattle.jinja.specs.Program.{MethodDecl, ClassDecl, Program}
use Rattle.jinja.specs.Types.{type_number, type_of_number, same_type, same_types}
use Rattle.jinja.specs.Classes.{maybe, table, class_at, IsClass, superclass_of, AtOrBelow, here, up}
use Rattle.jinja.specs.Lookups.{position, own_fields, own_methods, fields_within, fields_of, own_field, Owned, methods_from, method_at, count_methods, own_method, sees_within, sees, overrides}
use Rattle.jinja.specs.ClassLaws.{StandsIn, ClassInheritance}
use Rattle.jinja.specs.WellFormed.{WellFormed}
use Rattle.jinja.proofs.Options.{conflict, some_inj, maybe_found, nth_front, nth_back, nth_map}
use Rattle.jinja.proofs.Climbs.{object_root, falls_to, climb}
use Rattle.std.proofs.lemmas.List.{length-map}

-- an item that was found by its name
position_found : {A : Type 0} (name : A → ℕ) (n : ℕ) (xs : List A) {i : ℕ} → position name n xs ≡ Some i → (x : A) × (slice_get xs i ≡ Some x)
position_found name n [] e = absurd (conflict e)
position_found {A} name n (x ∷ xs) {i} e = go (eqb (name x) n) e (λ j q. position_found name n xs q)
  where
    go : (b : Bool) → cond b (Some 0) (maybe (position name n xs) None (λ j. Some (suc j))) ≡ Some i → ((j : ℕ) → position name n xs ≡ Some j → (y : A) × (slice_get xs j ≡ Some y)) → (y : A) × (slice_get (x ∷ xs) i ≡ Some y)
    go true q ih = let z : 0 ≡ i = some_inj q in rw (← z) (x, refl)
    go false q ih = let r = maybe_found (position name n xs) (λ j. Some (suc j)) q in let z : suc r.0 ≡ i = some_inj r.2 in rw (← z) (ih r.0 r.1)

-- the methods of the classes before come first
method_placed : (b c j : ℕ) (ds : List ClassDecl) {d : ClassDecl} {x : MethodDecl} → slice_get ds c ≡ Some d → slice_get d.methods j ≡ Some x → slice_get (methods_from b ds) (count_methods (take c ds) + j) ≡ Some (record { owner = b + c; method = x })
method_placed b c j [] e q = absurd (conflict e)
method_placed b zero j (d ∷ ds) {x = x} e q =
    rw (zero-add, add-zero) (nth_front (map (λ m. record { owner = b; method = m }) d.methods) _ j (nth_map (λ m. record { owner = b; method = m }) d.methods j (rw (some_inj e) q)))
method_placed b (suc c) j (d ∷ ds) {x = x} e q =
    let owned : MethodDecl → Owned = λ m. record { owner = b; method = m } in
    let l : length (map owned d.methods) ≡ length d.methods = length-map d.methods owned in
    let n : length d.methods + count_methods (take c ds) + j ≡ length (map owned d.methods) + (count_methods (take c ds) + j) = omega arith in
    let m : b + suc c ≡ suc b + c = omega arith in
    rw (n, m) (nth_back (map owned d.methods) (methods_from (suc b) ds) (count_methods (take c ds) + j) ∙ method_placed (suc b) c j ds e q)

module _ (P : Program) where
  pub own_found : (c m : ℕ) {k : ℕ} → own_method P c m ≡ Some k → (N : Owned) × (method_at P k ≡ Some N) × (N.owner ≡ c) × IsClass P c
  unfolding own_method method_at
  own_found c m {k} e =
      let a = maybe_found (position (λ (x : MethodDecl). x.name) m (own_methods P c)) (λ j. Some (count_methods (take c (table P)) + j)) e in
      let z : count_methods (take c (table P)) + a.0 ≡ k = some_inj a.2 in
      let x = position_found (λ (x : MethodDecl). x.name) m (own_methods P c) a.1 in
      go (class_at P c) refl a.0 z x.0 x.1
    where
      go : (o : Option ClassDecl) → class_at P c ≡ o → (j : ℕ) → count_methods (take c (table P)) + j ≡ k → (x : MethodDecl) → slice_get (maybe o [] (λ d. d.methods)) j ≡ Some x → (N : Owned) × (slice_get (methods_from 0 (table P)) k ≡ Some N) × (N.owner ≡ c) × IsClass P c
      go None q j z x e = absurd (conflict e)
      go (Some d) q j z x e =
          (record { owner = 0 + c; method = x }, rw (← z) (method_placed 0 c j (table P) q e), zero-add c, slice_get_within (table P) c _ q)

  object_declares_none : (m : ℕ) → own_method P 0 m ≡ None
  unfolding own_method
  object_declares_none m = refl

  -- what is no class has Object above it
  stray_super : (c : ℕ) → length (table P) ≤ c → superclass_of P c ≡ 0
  unfolding superclass_of
  stray_super c l = ap (λ o. maybe o 0 (λ (d : ClassDecl). d.superclass)) (slice_get_past (table P) c l)

type_read_back : (t : Ty) → type_of_number (type_number t) ≡ t
type_read_back Void = refl
type_read_back Boolean = refl
type_read_back Integer = refl
type_read_back NullType = refl
type_read_back (Class c) = let e : 4 + c ≡ suc (suc (suc (suc c))) = omega arith in ap type_of_number e

pub same_type_is : (t u : Ty) → same_type t u ≡ true → t ≡ u
same_type_is t u e = sym (type_read_back t) ∙ ap type_of_number (eqb-true _ _ e) ∙ type_read_back u

pub same_types_are : (ts us : List Ty) → same_types ts us ≡ true → ts ≡ us
same_types_are [] [] e = refl
same_types_are [] (u ∷ us) e = absurd (false≢true e)
same_types_are (t ∷ ts) [] e = absurd (false≢true e)
same_types_are (t ∷ ts) (u ∷ us) e = let p = and_parts (same_type t u) (same_types ts us) e in rw (same_type_is t u p.0, same_types_are ts us p.1)

types_same : (ts : List Ty) → same_types ts ts ≡ true
types_same [] = refl
types_same (t ∷ ts) = and_from (same_type t t) (same_types ts ts) (eq-eqb _ _ refl) (types_same ts)

-- the relation of an overriding method to the inherited one
pub overrides_self : (m : MethodDecl) → overrides m m ≡ true
overrides_self m = and_from _ _ (types_same m.params) (eq-eqb _ _ refl)

pub overrides_params : (l m : MethodDecl) → overrides l m ≡ true → l.params ≡ m.params
overrides_params l m e = same_types_are _ _ (and_parts (same_types l.params m.params) _ e).0

pub overrides_result : (l m : MethodDecl) → overrides l m ≡ true → l.result ≡ m.result
overrides_result l m e = same_type_is _ _ (and_parts (same_types l.params m.params) _ e).1

overrides_trans : (l m n : MethodDecl) → overrides l m ≡ true → overrides m n ≡ true → overrides l n ≡ true
overrides_trans l m n p q = rw (overrides_params l m p, overrides_result l m p) q

again : {A : Type 0} (o : Option A) → maybe o o (λ i. Some i) ≡ o
again None = refl
again (Some a) = refl

module _ {P : Program} (w : WellFormed P) where
  pub fields_up : (c : ℕ) → fields_of P (suc c) ≡ fields_of P (superclass_of P (suc c)) ++ own_fields P (suc c)
  unfolding fields_of
  fields_up c = climb w (fields_within P) (λ c r. r ++ own_fields P c) (λ k c. refl) (rw (object_root P)) c

  sees_up : (c m : ℕ) → sees P (suc c) m ≡ maybe (own_method P (suc c) m) (sees P (superclass_of P (suc c)) m) (λ i. Some i)
  unfolding sees
  sees_up c m = climb w (λ k c. sees_within P k c m) (λ c r. maybe (own_method P c m) r (λ i. Some i)) (λ k c. refl) (rw (object_root P) (again _)) c

  sees_own : (c m : ℕ) {o : Option ℕ} → own_method P (suc c) m ≡ o → sees P (suc c) m ≡ maybe o (sees P (superclass_of P (suc c)) m) (λ i. Some i)
  sees_own c m e = sees_up c m ∙ ap (λ z. maybe z (sees P (superclass_of P (suc c)) m) (λ i. Some i)) e

  inherits_field : {c d : ℕ} {f : Field} (i : ℕ) → AtOrBelow P c d → slice_get (fields_of P d) i ≡ Some f → slice_get (fields_of P c) i ≡ Some f
  inherits_field i (here x) e = e
  inherits_field {c = zero} i (up x s) e = rw (object_root P) at (inherits_field i s e)
  inherits_field {c = suc c} i (up x s) e = rw (fields_up c) (nth_front _ _ i (inherits_field i s e))

  own_placed : {x : FieldPlace} (c f : ℕ) → own_field P c f ≡ Some x → (g : Field) × (slice_get (fields_of P c) x.place ≡ Some g) × (g.ty ≡ x.ty)
  unfolding own_field
  own_placed zero f e = absurd (conflict e)
  own_placed {x} (suc c) f e =
      let a = maybe_found (position (λ (x : Field). x.name) f (own_fields P (suc c))) _ e in
      let b = maybe_found (slice_get (own_fields P (suc c)) a.0) _ a.2 in
      let z : record { place = length (fields_of P (superclass_of P (suc c))) + a.0; ty = b.0.ty } ≡ x = some_inj b.2 in
      let placed : slice_get (fields_of P (suc c)) (length (fields_of P (superclass_of P (suc c))) + a.0) ≡ Some b.0 = ap (λ fs. slice_get fs (length (fields_of P (superclass_of P (suc c))) + a.0)) (fields_up c) ∙ nth_back _ _ a.0 ∙ b.1 in
      (b.0, subst (λ i. slice_get (fields_of P (suc c)) i ≡ Some b.0) (ap (λ (y : FieldPlace). y.place) z) placed, ap (λ (y : FieldPlace). y.ty) z)

  stands_in : {c d k : ℕ} {N : Owned} (m : ℕ) → AtOrBelow P c d → sees P d m ≡ Some k → method_at P k ≡ Some N → StandsIn P c m N
  stands_in {N = N} m (here x) e q = record { number = _; owned = _; seen = e; stands = q; related = overrides_self N.method }
  stands_in {c = zero} {N = N} m (up x s) e q = subst (λ c. StandsIn P c m N) (object_root P) (stands_in m s e q)
  stands_in {c = suc c} {N = N} m (up x s) e q = go (stands_in m s e q) (own_method P (suc c) m) refl
    where
      go : StandsIn P (superclass_of P (suc c)) m N → (o : Option ℕ) → own_method P (suc c) m ≡ o → StandsIn P (suc c) m N
      go r None d = record { number = r.number; owned = r.owned; seen = sees_own c m d ∙ r.seen; stands = r.stands; related = r.related }
      go r (Some i) d =
          let f = own_found P (suc c) m d in
          record { number = i; owned = f.0; seen = sees_own c m d; stands = f.1; related = overrides_trans f.0.method r.owned.method N.method (w.overriding (suc c) m d r.seen f.1 r.stands) r.related }

  object_sees_none : (m : ℕ) → sees P 0 m ≡ None
  unfolding sees
  object_sees_none m = object_declares_none P m

  seen_within : (b c m : ℕ) {k : ℕ} → c ≤ b → sees P c m ≡ Some k → (N : Owned) × (method_at P k ≡ Some N) × AtOrBelow P c N.owner
  seen_within b zero m l e = absurd (conflict (sym (object_sees_none m) ∙ e))
  seen_within zero (suc c) m l e = absurd (omega arith)
  seen_within (suc b) (suc c) m {k} l e = go (own_method P (suc c) m) refl (λ e. seen_within b (superclass_of P (suc c)) m (falls_to w (suc c) b l) e)
    where
      go : (o : Option ℕ) → own_method P (suc c) m ≡ o → (sees P (superclass_of P (suc c)) m ≡ Some k → (N : Owned) × (method_at P k ≡ Some N) × AtOrBelow P (superclass_of P (suc c)) N.owner) → (N : Owned) × (method_at P k ≡ Some N) × AtOrBelow P (suc c) N.owner
      go None d ih =
          let s : sees P (superclass_of P (suc c)) m ≡ Some k = sym (sees_own c m d) ∙ e in
          let r = ih s in
          ⊎_elim (λ i. (r.0, r.1, up i r.2)) (λ g. absurd (conflict (sym (object_sees_none m) ∙ (rw (stray_super P (suc c) g) at s)))) (cases_lt (suc c) (length (table P)))
      go (Some i) d ih =
          let f = own_found P (suc c) m d in
          let z : i ≡ k = some_inj (sym (sees_own c m d) ∙ e) in
          (f.0, rw (← z) f.1, rw f.2 (here f.3))

  seen_from : {c k : ℕ} (m : ℕ) → sees P c m ≡ Some k → (N : Owned) × (method_at P k ≡ Some N) × AtOrBelow P c N.owner
  seen_from {c} m e = seen_within c c m (omega arith) e

pub inheritance : ClassInheritance
inheritance P w = record {
  fields = inherits_field w;
  own_place = own_placed w;
  methods = stands_in w;
  seen_above = seen_from w;
}
