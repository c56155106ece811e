-- What typing and the machine rest on, of every program that keeps the rules.
use Rattle.std.proofs.Common.{◌≡◌, ℕ, zero, suc, ◌+◌, ◌<◌, ◌≤◌, true, ◌⊎◌, [], ◌++◌, length, take, Some, None, Option, sym, refl, ap, ◌∙◌, subst, inl, inr, arith}
use Rattle.std.specs.List.{slice_get}
use Rattle.std.proofs.lemmas.List.{length-take, length-append}
use Rattle.std.proofs.lemmas.Bool.{ltb-true, leb-true}
use Rattle.jinja.specs.declared.ty.Ty.{Ty}
use Rattle.jinja.specs.declared.program.Field.{Field}
use Rattle.jinja.specs.Program.{MethodDecl, ClassDecl, Program}
use Rattle.jinja.specs.Types.{type_exists}
use Rattle.jinja.specs.Classes.{maybe, built_in, table, class_at, superclass_of}
use Rattle.jinja.specs.Lookups.{own_fields, fields_within, fields_of, Owned, method_at, own_method, sees_within, sees, overrides}
use Rattle.format.specs.Limits.{max_fields}
use Rattle.format.specs.Rules.{keeps, each, inherited, override_keeps}
use Rattle.format.specs.Laws.{KeptIsWellFormed}
use Rattle.format.proofs.Kept.{code_fits, each_at, kept_class_at, kept_field_at, kept_method_at}
use Rattle.jinja.proofs.Options.{conflict, some_inj}
use Rattle.format.proofs.Found.{method_of_class, own_found, seen_declared}
use Rattle.format.proofs.Front.{Falls, no_fields, fields_front, sees_front, method_front}

-- a class is built in, or one of the program's own
whose : (P : Program) (c : ℕ) {d : ClassDecl} → class_at P c ≡ Some d → (d ≡ built_in) ⊎ ((i : ℕ) × (c ≡ 4 + i) × (slice_get P i ≡ Some d))
whose P zero e = inl (sym (some_inj e))
whose P (suc zero) e = inl (sym (some_inj e))
whose P (suc (suc zero)) e = inl (sym (some_inj e))
whose P (suc (suc (suc zero))) e = inl (sym (some_inj e))
whose P (suc (suc (suc (suc i)))) e = inr (i, omega arith, e)

-- the numbers below that of class i of a program are those of the table before it
front_table : (P : Program) (i s : ℕ) → s < length (table (take i P)) → s < 4 + i
front_table P i s l = let t = length-take i P in omega arith

module _ (P : Program) (kept : keeps P ≡ true) where
  super_below : (i : ℕ) {d : ClassDecl} → slice_get P i ≡ Some d → d.superclass < length (table (take i P))
  super_below i e = ltb-true _ _ (kept_class_at P kept i e).superclass

  pub smaller : Falls P
  unfolding superclass_of
  smaller c = go (class_at P (suc c)) refl
    where
      go : (o : Option ClassDecl) → class_at P (suc c) ≡ o → maybe o 0 (λ d. d.superclass) < suc c
      go None e = omega arith
      go (Some d) e = elim (whose P (suc c) e) [
        | inl h ↦ rw h (omega arith)
        | inr h ↦ (let l = front_table P h.0 d.superclass (super_below h.0 h.2) in omega (arith, h.1))
      ]

  -- the classes that the tests of types count
  all_classes : 4 + length P ≡ length (table P)
  all_classes = omega arith

  pub few_fields : (c : ℕ) → length (fields_of P c) ≤ max_fields
  unfolding fields_of superclass_of
  few_fields zero = omega arith
  few_fields (suc c) = go (class_at P (suc c)) refl
    where
      go : (o : Option ClassDecl) → class_at P (suc c) ≡ o → length (fields_within P c (maybe o 0 (λ d. d.superclass)) ++ maybe o [] (λ d. d.fields)) ≤ max_fields
      go None e = rw (no_fields P c) (omega arith)
      go (Some d) e = elim (whose P (suc c) e) [
        | inl h ↦ rw (h, no_fields P c) (omega arith)
        | inr h ↦
            (let s = d.superclass in
            let l = super_below h.0 h.2 in
            let below = front_table P h.0 s l in
            let same = fields_front P h.0 smaller c s s (omega (arith, h.1)) (omega arith) l in
            let fit = leb-true _ _ (kept_class_at P kept h.0 h.2).fields_fit in
            rw (same, length-append (fields_within (take h.0 P) s s) d.fields) fit)
      ]

  own_field_types : (c i : ℕ) {d : ClassDecl} {f : Field} → class_at P c ≡ Some d → slice_get d.fields i ≡ Some f → type_exists (length (table P)) f.ty ≡ true
  own_field_types c i {d} {f} e q = elim (whose P c e) [
    | inl h ↦ absurd (conflict (subst (λ (d : ClassDecl). slice_get d.fields i ≡ Some f) h q))
    | inr h ↦ subst (λ n. type_exists n f.ty ≡ true) all_classes (kept_field_at P kept h.0 i h.2 q).exists
  ]

  pub field_types : {f : Field} (c i : ℕ) → slice_get (own_fields P c) i ≡ Some f → type_exists (length (table P)) f.ty ≡ true
  field_types {f} c i q = go (class_at P c) refl q
    where
      go : (o : Option ClassDecl) → class_at P c ≡ o → slice_get (maybe o [] (λ d. d.fields)) i ≡ Some f → type_exists (length (table P)) f.ty ≡ true
      go None e q = absurd (conflict q)
      go (Some d) e q = own_field_types c i e q

  -- what is known of a method by its number
  record Known (m : MethodDecl) : Type 0 where
    params : each (type_exists (length (table P))) m.params ≡ true
    result : type_exists (length (table P)) m.result ≡ true
    code : 0 < length m.code

  known : (k : ℕ) {N : Owned} → method_at P k ≡ Some N → Known N.method
  unfolding method_at
  known k {N} e =
      let w = method_of_class 0 k (table P) e in
      elim (whose P w.0 w.3) [
        | inl h ↦ absurd (conflict (subst (λ (d : ClassDecl). slice_get d.methods w.2 ≡ Some N.method) h w.4))
        | inr h ↦
            (let m = kept_method_at P kept h.0 w.2 h.2 w.4 in
            let fits = code_fits _ (length N.method.code) m.code_fits in
            record {
              params = subst (λ n. each (type_exists n) N.method.params ≡ true) all_classes m.params;
              result = subst (λ n. type_exists n N.method.result ≡ true) all_classes m.result;
              code = omega (arith, fits.0);
            })
      ]

  pub param_types : {N : Owned} {t : Ty} (k i : ℕ) → method_at P k ≡ Some N → slice_get N.method.params i ≡ Some t → type_exists (length (table P)) t ≡ true
  param_types k i e q = each_at _ _ i (known k e).params q

  pub result_types : {N : Owned} (k : ℕ) → method_at P k ≡ Some N → type_exists (length (table P)) N.method.result ≡ true
  result_types k e = (known k e).result

  pub some_code : {N : Owned} (k : ℕ) → method_at P k ≡ Some N → 0 < length N.method.code
  some_code k e = (known k e).code

  -- the method that a class under s inherits by that name from the classes before it
  inherited_front : (i s m : ℕ) {k : ℕ} {N : Owned} → s < length (table (take i P)) → sees P s m ≡ Some k → method_at P k ≡ Some N → inherited (take i P) s m ≡ Some N.method
  unfolding sees
  inherited_front i s m {k} {N} l e q =
      let seen : sees_within (take i P) s s m ≡ Some k = sym (sees_front P i smaller s s s (omega arith) (omega arith) l m) ∙ e in
      let own = seen_declared (take i P) s s m seen in
      let found = own_found (take i P) own.0 m own.1 in
      by_number seen found.numbered
    where
      by_number : {O : Owned} → sees_within (take i P) s s m ≡ Some k → method_at (take i P) k ≡ Some O → inherited (take i P) s m ≡ Some N.method
      by_number {O} seen e = let same : N ≡ O = some_inj (sym q ∙ method_front P i k e) in rw (seen, e, same) refl

  pub overriding : {k k' : ℕ} {N N' : Owned} (c m : ℕ) → own_method P c m ≡ Some k → sees P (superclass_of P c) m ≡ Some k' → method_at P k ≡ Some N → method_at P k' ≡ Some N' → overrides N.method N'.method ≡ true
  unfolding superclass_of
  overriding {k} {k'} {N} {N'} c m own up e e' =
      let f = own_found P c m own in
      let d = f.class in
      elim (whose P c f.declared) [
        | inl h ↦ absurd (conflict (subst (λ (d : ClassDecl). slice_get d.methods f.index ≡ Some f.method) h f.stands))
        | inr h ↦
            (let kept_m = kept_method_at P kept h.0 f.index h.2 f.stands in
            let s : superclass_of P c ≡ d.superclass = ap (λ o. maybe o 0 (λ (d : ClassDecl). d.superclass)) f.declared in
            let above = inherited_front h.0 d.superclass m (super_below h.0 h.2) (rw s at up) e' in
            let over : override_keeps (take h.0 P) d.superclass m f.method.params f.method.result ≡ true = rw f.name at kept_m.override in
            let N_is : N.method ≡ f.method = ap (λ (o : Owned). o.method) (some_inj (sym e ∙ f.numbered)) in
            rw N_is (rw above at over))
      ]

pub kept_is_well_formed : KeptIsWellFormed
kept_is_well_formed P kept = record {
  smaller = smaller P kept;
  few_fields = few_fields P kept;
  field_types = field_types P kept;
  param_types = param_types P kept;
  result_types = result_types P kept;
  some_code = some_code P kept;
  overriding = overriding P kept;
}
