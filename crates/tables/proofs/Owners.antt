-- The methods of the program and of the tables have the same numbers, and their classes are found by them.
use Rattle.std.proofs.Common.{◌≡◌, ℕ, zero, suc, ◌+◌, ◌-◌, ◌<◌, ◌≤◌, true, eqb, List, [], ◌∷◌, ◌++◌, map, length, get_or, take, drop, Some, None, sym, refl, ap, ◌∙◌, arith, take-add}
use Rattle.std.specs.List.{slice_get, flat_map, AllByRecursion}
use Rattle.std.proofs.lemmas.List.{map-append, drop-drop, take_all, take_more, drop_more, drop_all, get_or-map, length-map}
use Rattle.std.proofs.lemmas.Option.{slice_get-get_or}
use Rattle.std.proofs.lemmas.Bool.{and_parts, eqb-true}
use Rattle.jinja.specs.declared.program.Field.{Field}
use Rattle.jinja.specs.Program.{MethodDecl, ClassDecl}
use Rattle.jinja.specs.Classes.{table}
use Rattle.jinja.specs.Lookups.{Owned, methods_from, method_at, count_methods}
use Rattle.tables.specs.declared.records.ClassRec.{ClassRec}
use Rattle.tables.specs.declared.tables.Tables.{Tables}
use Rattle.tables.specs.Spans.{part, chained, MethodsWithin}
use Rattle.tables.specs.Views.{classes_of, fields_of, method_views, class_view, program_of}
use Rattle.tables.specs.Methods.{method_of, Whole, owner_of, unowned}
use Rattle.tables.proofs.Spans.{length_part}
use Rattle.tables.proofs.Programs.{nth_map, length_program}
use Rattle.tables.proofs.Numbering.{chained_first, length_views, methods_within}
use Rattle.tables.proofs.Rows.{nth_append_left, nth_append_right}

abbrev owned_by : ℕ → List MethodDecl → List Owned
owned_by c ms = map (λ m. record { owner = c; method = m }) ms

length_owned : (c : ℕ) (ms : List MethodDecl) → length (owned_by c ms) ≡ length ms
length_owned c ms = length-map {B = Owned} ms (λ m. record { owner = c; method = m })

map_unowned : (c : ℕ) (ms : List MethodDecl) → map (λ (o : Owned). o.method) (owned_by c ms) ≡ ms
map_unowned c [] = refl
map_unowned c (m ∷ ms) = ap (λ xs. m ∷ xs) (map_unowned c ms)

-- the methods of classes without their owners
methods_joined : (c : ℕ) (ds : List ClassDecl) → map (λ (o : Owned). o.method) (methods_from c ds) ≡ flat_map (λ d. d.methods) ds
methods_joined c [] = refl
methods_joined c (d ∷ ds) =
    map-append (λ (o : Owned). o.method) (owned_by c d.methods) (methods_from (suc c) ds)
    ∙ (rw (map_unowned c d.methods, methods_joined (suc c) ds) refl)

chained_joined : (fs : List Field) (ms : List MethodDecl) (k : ℕ) (rs : List ClassRec) → chained k rs ≡ true → AllByRecursion (MethodsWithin (length ms)) rs →
    flat_map (λ d. d.methods) (map (class_view fs ms) rs) ≡ take (count_methods (map (class_view fs ms) rs)) (drop k ms)
chained_joined fs ms k [] h w = refl
chained_joined fs ms k (x ∷ rs) h w =
    let p = and_parts (eqb x.methods.first k) (chained (k + x.methods.count) rs) h in
    let f = eqb-true x.methods.first k p.0 in
    let t = chained_joined fs ms (k + x.methods.count) rs p.1 w.1 in
    let n = count_methods (map (class_view fs ms) rs) in
    rw (length_part x.methods ms w.0, f, take-add x.methods.count n (drop k ms), drop-drop x.methods.count k ms, t) refl

module _ (t : Tables) where
  within_views : AllByRecursion (MethodsWithin (length (method_views t))) (classes_of t)
  within_views = rw (length_views t) (methods_within t)

  pub methods_numbered : (k : ℕ) → Whole t → unowned (method_at (program_of t) k) ≡ method_of t k
  unfolding method_at program_of
  methods_numbered k whole =
      let j = chained_joined (fields_of t) (method_views t) 0 (classes_of t) t.numbered within_views in
      let l : length (method_views t) ≤ count_methods (program_of t) = omega (arith, whole, length_views t) in
      sym (nth_map (λ (o : Owned). o.method) (methods_from 0 (table (program_of t))) k)
      ∙ ap (λ ms. slice_get ms k) (methods_joined 0 (table (program_of t)) ∙ j ∙ take_all (count_methods (program_of t)) (method_views t) l)

count_push : (ds : List ClassDecl) (d : ClassDecl) → count_methods (ds ++ d ∷ []) ≡ count_methods ds + length d.methods
count_push [] d = omega arith
count_push (x ∷ ds) d = rw (count_push ds d) (omega arith)

owner_map : (c : ℕ) (ms : List MethodDecl) (j : ℕ) → j < length ms → owner_of (slice_get (owned_by c ms) j) ≡ Some c
owner_map c [] j h = absurd (omega arith)
owner_map c (m ∷ ms) zero h = refl
owner_map c (m ∷ ms) (suc j) h = owner_map c ms j (omega arith)

-- a turn of the search through the classes for the one that declares method k
module _ (t : Tables) (i k : ℕ) where
  pub no_owner : length (classes_of t) ≤ i → slice_get (methods_from (4 + i) (drop i (program_of t))) (k - count_methods (take i (program_of t))) ≡ None
  no_owner h = rw (drop_all i (program_of t) (omega (arith, length_program t))) refl

  module _ (d : ClassRec) (h : i < length (classes_of t)) where
    class_here : get_or (program_of t) i (class_view (fields_of t) (method_views t) d) ≡ class_view (fields_of t) (method_views t) (get_or (classes_of t) i d)
    unfolding program_of
    class_here =
        let view = class_view (fields_of t) (method_views t) in
        get_or-map view (classes_of t) i d (view d) h

    rest : drop i (program_of t) ≡ class_view (fields_of t) (method_views t) (get_or (classes_of t) i d) ∷ drop (i + 1) (program_of t)
    rest =
        drop_more (program_of t) i (class_view (fields_of t) (method_views t) d) (omega (arith, length_program t))
        ∙ ap (λ x. x ∷ drop (i + 1) (program_of t)) class_here

    own_length : length (part (get_or (classes_of t) i d).methods (method_views t)) ≡ (get_or (classes_of t) i d).methods.count
    own_length =
        length_part (get_or (classes_of t) i d).methods (method_views t) (omega (arith, length_views t, t.class_methods i d h))

    -- the number of its first method
    first_here : count_methods (take i (program_of t)) ≡ (get_or (classes_of t) i d).methods.first
    unfolding program_of
    first_here =
        let e : slice_get (classes_of t) i ≡ Some (get_or (classes_of t) i d) =
        slice_get-get_or (classes_of t) i d h in
        omega (arith, chained_first (fields_of t) (method_views t) 0 (classes_of t) i (get_or (classes_of t) i d) t.numbered (within_views t) e)

    count_more : count_methods (take (i + 1) (program_of t)) ≡ (get_or (classes_of t) i d).methods.first + (get_or (classes_of t) i d).methods.count
    count_more =
        let e = take_more (program_of t) i (class_view (fields_of t) (method_views t) d) (omega (arith, length_program t)) in
        let n = count_push (take i (program_of t)) (class_view (fields_of t) (method_views t) (get_or (classes_of t) i d)) in
        rw (e, class_here) (omega (arith, n, own_length, first_here))

    pub owner_here : count_methods (take i (program_of t)) ≤ k → k < (get_or (classes_of t) i d).methods.first + (get_or (classes_of t) i d).methods.count →
        owner_of (slice_get (methods_from (4 + i) (drop i (program_of t))) (k - count_methods (take i (program_of t)))) ≡ Some (4 + i)
    owner_here l g =
        let ms = part (get_or (classes_of t) i d).methods (method_views t) in
        let owned = owned_by (4 + i) ms in
        let j = k - count_methods (take i (program_of t)) in
        let in_own : j < length ms = omega (arith, own_length, first_here) in
        let in_owned : j < length owned = omega (arith, length_owned (4 + i) ms) in
        ap (λ ds. owner_of (slice_get (methods_from (4 + i) ds) j)) rest
        ∙ ap owner_of (nth_append_left owned (methods_from (suc (4 + i)) (drop (i + 1) (program_of t))) j in_owned)
        ∙ owner_map (4 + i) ms j in_own

    pub none_before : (get_or (classes_of t) i d).methods.first + (get_or (classes_of t) i d).methods.count ≤ k → count_methods (take (i + 1) (program_of t)) ≤ k
    none_before g = omega (arith, count_more)

    pub owner_later : (get_or (classes_of t) i d).methods.first + (get_or (classes_of t) i d).methods.count ≤ k →
        slice_get (methods_from (4 + i) (drop i (program_of t))) (k - count_methods (take i (program_of t)))
        ≡ slice_get (methods_from (4 + (i + 1)) (drop (i + 1) (program_of t))) (k - count_methods (take (i + 1) (program_of t)))
    owner_later g =
        let ms = part (get_or (classes_of t) i d).methods (method_views t) in
        let owned = owned_by (4 + i) ms in
        let others = drop (i + 1) (program_of t) in
        let j = k - count_methods (take i (program_of t)) in
        let n : length owned ≡ (get_or (classes_of t) i d).methods.count = length_owned (4 + i) ms ∙ own_length in
        let past : length owned ≤ j = omega (arith, first_here) in
        let c : suc (4 + i) ≡ 4 + (i + 1) = omega arith in
        let at : j - length owned ≡ k - count_methods (take (i + 1) (program_of t)) = omega (arith, first_here, count_more) in
        ap (λ ds. slice_get (methods_from (4 + i) ds) j) rest
        ∙ nth_append_right owned (methods_from (suc (4 + i)) others) j past
        ∙ ap (λ x. slice_get (methods_from x others) (j - length owned)) c
        ∙ ap (slice_get (methods_from (4 + (i + 1)) others)) at
