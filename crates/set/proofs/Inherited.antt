-- The methods of a program by their numbers are those of its tables, so that the one that a class sees is found there.
use Rattle.std.proofs.Common.{◌≡◌, ℕ, zero, suc, ◌+◌, ◌<◌, ◌≤◌, true, ◌&&◌, eqb, List, [], ◌∷◌, ◌++◌, map, length, get_or, take, drop, Some, None, Option, sym, refl, ap, ◌∙◌, inl, inr, arith, take-add}
use Rattle.std.specs.List.{slice_get, flat_map, AllByRecursion}
use Rattle.std.proofs.lemmas.List.{map-append, drop-drop, get_or-take, length-take-le}
use Rattle.std.proofs.lemmas.Option.{slice_get-get_or}
use Rattle.std.proofs.lemmas.Bool.{and_parts, eqb-true, cases_Bool}
use Rattle.jinja.specs.declared.ty.Ty.{Ty}
use Rattle.jinja.specs.declared.program.Field.{Field}
use Rattle.jinja.specs.Types.{same_type, same_types}
use Rattle.jinja.specs.Program.{MethodDecl, ClassDecl, Program}
use Rattle.jinja.specs.Classes.{maybe, table, superclass_of}
use Rattle.jinja.specs.Lookups.{Owned, position, own_methods, own_method, methods_from, method_at, count_methods, sees_within, sees}
use Rattle.format.specs.Rules.{inherited, override_keeps}
use Rattle.tables.specs.declared.records.ClassRec.{ClassRec}
use Rattle.tables.specs.declared.tables.Tables.{Tables}
use Rattle.tables.specs.Spans.{part, chained, MethodsWithin}
use Rattle.tables.specs.Views.{classes_of, fields_of, methods_of, params_of, instrs_of, handlers_of, method_view, method_views, class_view, program_of}
use Rattle.tables.proofs.Spans.{length_part}
use Rattle.tables.proofs.Programs.{nth_map}
use Rattle.tables.proofs.Numbering.{length_views, methods_within}
use Rattle.set.proofs.Extends.{no_method}

position_below : {A : Type 0} (name : A → ℕ) (n : ℕ) (xs : List A) (j : ℕ) → position name n xs ≡ Some j → j < length xs
position_below name n [] j e = absurd (let z : ◌≡◌ {A = ℕ} 0 1 = cc in omega arith)
position_below {A} name n (x ∷ xs) j e =
    let later : (o : Option ℕ) → position name n xs ≡ o → maybe o None (λ i. Some (suc i)) ≡ Some j → j < suc (length xs) =
    λ o. elim o as (λ o. position name n xs ≡ o → maybe o None (λ i. Some (suc i)) ≡ Some j → j < suc (length xs)) [
      | None ↦ (λ h f. absurd (let z : ◌≡◌ {A = ℕ} 0 1 = cc in omega arith))
      | Some i ↦ (λ h f. let b = position_below name n xs i h in let k : suc i ≡ j = cc in omega arith)
    ] in
    elim (cases_Bool (eqb (name x) n)) [
      | inl t ↦ (let f = rw t at e in let k : ◌≡◌ {A = ℕ} 0 j = cc in omega arith)
      | inr t ↦ later (position name n xs) refl (rw t at e)
    ]

count_below : (ds : List ClassDecl) (c j : ℕ) → j < length (maybe (slice_get ds c) [] (λ d. d.methods)) → count_methods (take c ds) + j < count_methods ds
count_below [] c j h = absurd (omega arith)
count_below (d ∷ ds) zero j h = omega arith
count_below (d ∷ ds) (suc c) j h = let b = count_below ds c j h in omega arith

module _ (P : Program) where
  own_below : (c m k : ℕ) → own_method P c m ≡ Some k → k < count_methods P
  unfolding own_method
  own_below c m k e =
      let o = position (λ (x : MethodDecl). x.name) m (own_methods P c) in
      let go : (o : Option ℕ) → position (λ (x : MethodDecl). x.name) m (own_methods P c) ≡ o → maybe o None (λ j. Some (count_methods (take c (table P)) + j)) ≡ Some k → k < count_methods P =
      λ o. elim o as (λ o. position (λ (x : MethodDecl). x.name) m (own_methods P c) ≡ o → maybe o None (λ j. Some (count_methods (take c (table P)) + j)) ≡ Some k → k < count_methods P) [
        | None ↦ (λ h f. absurd (let z : ◌≡◌ {A = ℕ} 0 1 = cc in omega arith))
        | Some j ↦ (λ h f.
            let b = count_below (table P) c j (position_below (λ (x : MethodDecl). x.name) m (own_methods P c) j h) in
            let g : count_methods (take c (table P)) + j ≡ k = cc in omega arith)
      ] in
      go o refl e

  sees_below : (f c m k : ℕ) → sees_within P f c m ≡ Some k → k < count_methods P
  sees_below zero c m k e = own_below c m k e
  sees_below (suc f) c m k e =
      let go : (o : Option ℕ) → own_method P c m ≡ o → maybe o (sees_within P f (superclass_of P c) m) (λ i. Some i) ≡ Some k → k < count_methods P =
      λ o. elim o as (λ o. own_method P c m ≡ o → maybe o (sees_within P f (superclass_of P c) m) (λ i. Some i) ≡ Some k → k < count_methods P) [
        | None ↦ (λ h g. sees_below f (superclass_of P c) m k g)
        | Some i ↦ (λ h g. own_below c m k (h ∙ g))
      ] in
      go (own_method P c m) refl e

methods_owned : (c : ℕ) (ms : List MethodDecl) → map (λ (o : Owned). o.method) (map (λ m. record { owner = c; method = m }) ms) ≡ ms
methods_owned c [] = refl
methods_owned c (m ∷ ms) = ap (λ xs. m ∷ xs) (methods_owned c ms)

methods_joined : (c : ℕ) (ds : List ClassDecl) → map (λ (o : Owned). o.method) (methods_from c ds) ≡ flat_map (λ d. d.methods) ds
methods_joined c [] = refl
methods_joined c (d ∷ ds) = map-append _ (map (λ m. record { owner = c; method = m }) d.methods) (methods_from (suc c) ds) ∙ rw (methods_owned c d.methods, methods_joined (suc c) ds) refl

-- classes whose methods stand one behind the other from k on have just those, in that order
chain_joined : (fs : List Field) (ms : List MethodDecl) (k : ℕ) (rs : List ClassRec) → chained k rs ≡ true → AllByRecursion (MethodsWithin (length ms)) rs →
    flat_map (λ d. d.methods) (map (class_view fs ms) rs) ≡ take (count_methods (map (class_view fs ms) rs)) (drop k ms)
chain_joined fs ms k [] h w = refl
chain_joined fs ms k (r ∷ rs) h w =
    let p = and_parts (eqb r.methods.first k) (chained (k + r.methods.count) rs) h in
    let f = eqb-true r.methods.first k p.0 in
    let t = chain_joined fs ms (k + r.methods.count) rs p.1 w.1 in
    let l = length_part r.methods ms w.0 in
    let n = r.methods.count in
    let more = count_methods (map (class_view fs ms) rs) in
    let a : part r.methods ms ≡ take n (drop k ms) = ap (λ i. take n (drop i ms)) f in
    ap (λ xs. part r.methods ms ++ xs) (t ∙ ap (take more) (sym (drop-drop n k ms)))
    ∙ (ap (λ xs. xs ++ take more (drop n (drop k ms))) a ∙ (sym (take-add n more (drop k ms)) ∙ ap (λ i. take (i + more) (drop k ms)) (sym l)))

pub chain_end : (fs : List Field) (ms : List MethodDecl) (k : ℕ) (rs : List ClassRec) → chained k rs ≡ true → AllByRecursion (MethodsWithin (length ms)) rs → k ≤ length ms →
    k + count_methods (map (class_view fs ms) rs) ≤ length ms
chain_end fs ms k [] h w e = omega arith
chain_end fs ms k (r ∷ rs) h w e =
    let p = and_parts (eqb r.methods.first k) (chained (k + r.methods.count) rs) h in
    let f = eqb-true r.methods.first k p.0 in
    let l = length_part r.methods ms w.0 in
    let b : k + r.methods.count ≤ length ms = omega (arith, w.0) in
    let t = chain_end fs ms (k + r.methods.count) rs p.1 w.1 b in
    omega arith

module _ (t : Tables) where
  within : AllByRecursion (MethodsWithin (length (method_views t))) (classes_of t)
  within = rw (length_views t) (methods_within t)

  program_methods : map (λ (o : Owned). o.method) (methods_from 0 (table (program_of t))) ≡ take (count_methods (program_of t)) (method_views t)
  unfolding program_of
  program_methods = methods_joined 0 (table (program_of t)) ∙ chain_joined (fields_of t) (method_views t) 0 (classes_of t) t.numbered within

  pub few_methods : count_methods (program_of t) ≤ (length (methods_of t))
  unfolding program_of
  few_methods = let e = chain_end (fields_of t) (method_views t) 0 (classes_of t) t.numbered within (omega arith) in omega (arith, length_views t)

  -- the method that a class sees stands in the tables under its number
  module _ (s m k : ℕ) (seen : sees (program_of t) s m ≡ Some k) where
    pub inherited_at : inherited (program_of t) s m ≡ maybe (slice_get (methods_of t) k) None (λ r. Some (method_view (params_of t) (instrs_of t) (handlers_of t) r))
    unfolding sees method_at
    inherited_at =
        let P = program_of t in
        let view = method_view (params_of t) (instrs_of t) (handlers_of t) in
        let b = sees_below P s s m k seen in
        let lc : length (take (count_methods P) (method_views t)) ≡ count_methods P = length-take-le (count_methods P) (method_views t) (omega (arith, few_methods, length_views t)) in
        let lt : k < length (take (count_methods P) (method_views t)) = omega arith in
        let lv : k < length (method_views t) = omega (arith, few_methods, length_views t) in
        let lm : k < length (methods_of t) = omega (arith, few_methods) in
        let d = view (get_or (methods_of t) k no_method) in
        let a : maybe (method_at P k) None (λ o. Some o.method) ≡ slice_get (method_views t) k =
        sym (nth_map (λ (o : Owned). o.method) (methods_from 0 (table P)) k)
        ∙ (ap (λ xs. slice_get xs k) program_methods
        ∙ (slice_get-get_or (take (count_methods P) (method_views t)) k d lt
        ∙ (ap Some (get_or-take (count_methods P) (method_views t) k d b) ∙ sym (slice_get-get_or (method_views t) k d lv)))) in
        ap (λ o. maybe o None (λ k. maybe (method_at P k) None (λ o. Some o.method))) seen ∙ (a ∙ nth_map view (methods_of t) k)

pub unseen : (P : Program) (s m : ℕ) → sees P s m ≡ None → inherited P s m ≡ None
unseen P s m e = rw e refl

-- whether a method may stand in for the one that its class inherits
pub free : (P : Program) (s m : ℕ) (ps : List Ty) (r : Ty) → inherited P s m ≡ None → override_keeps P s m ps r ≡ true
free P s m ps r e = rw e refl

pub bound : (P : Program) (s m : ℕ) (ps : List Ty) (r : Ty) (u : MethodDecl) → inherited P s m ≡ Some u → override_keeps P s m ps r ≡ (same_types ps u.params && same_type r u.result)
bound P s m ps r u e = rw e refl
