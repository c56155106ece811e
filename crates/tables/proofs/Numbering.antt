-- The methods of the classes stand one behind the other, so that a method's place is its number.
use Rattle.std.proofs.Common.{◌≡◌, ℕ, zero, suc, ◌+◌, ◌-◌, ◌≤◌, true, eqb, List, [], ◌∷◌, map, length, take, Some, None, Option, IfSome, refl, ap, ◌∙◌, arith}
use Rattle.std.specs.List.{slice_get, AllByRecursion}
use Rattle.std.proofs.lemmas.List.{length-map}
use Rattle.std.proofs.lemmas.Bool.{and_parts, eqb-true}
use Rattle.jinja.specs.declared.program.Field.{Field}
use Rattle.jinja.specs.Program.{MethodDecl, Program}
use Rattle.jinja.specs.Classes.{table}
use Rattle.jinja.specs.Lookups.{position, own_method, count_methods}
use Rattle.jinja.proofs.Options.{all_nth}
use Rattle.tables.specs.declared.records.ClassRec.{ClassRec}
use Rattle.tables.specs.declared.records.MethodRec.{MethodRec}
use Rattle.tables.specs.declared.tables.Tables.{Tables}
use Rattle.tables.specs.Spans.{part, chained, MethodsWithin, FieldsWithin}
use Rattle.tables.specs.Views.{classes_of, fields_of, methods_of, params_of, instrs_of, handlers_of, method_view, method_views, class_view, program_of}
use Rattle.tables.specs.Records.{record_at}
use Rattle.tables.proofs.Spans.{all_along, length_part, part_map}
use Rattle.tables.proofs.Programs.{methods_at, record_nth}
use Rattle.tables.proofs.Positions.{position_map, later}

some_same : {A : Type 0} (x y : A) → ◌≡◌ {A = Option A} (Some x) (Some y) → x ≡ y
some_same x y e = cc

-- the methods of the classes before the i-th are as many as its first method's number says
pub chained_first : (fs : List Field) (ms : List MethodDecl) (k : ℕ) (rs : List ClassRec) (i : ℕ) (r : ClassRec) → chained k rs ≡ true → AllByRecursion (MethodsWithin (length ms)) rs →
    slice_get rs i ≡ Some r → k + count_methods (take i (map (class_view fs ms) rs)) ≡ r.methods.first
chained_first fs ms k [] i r h w e = absurd (let z : ◌≡◌ {A = ℕ} 0 1 = cc in omega arith)
chained_first fs ms k (x ∷ rs) zero r h w e =
    let q : x ≡ r = some_same x r e in
    let f = eqb-true x.methods.first k (and_parts (eqb x.methods.first k) (chained (k + x.methods.count) rs) h).0 in
    let g : x.methods.first ≡ r.methods.first = ap (λ (y : ClassRec). y.methods.first) q in
    omega arith
chained_first fs ms k (x ∷ rs) (suc i) r h w e =
    let t = chained_first fs ms (k + x.methods.count) rs i r (and_parts (eqb x.methods.first k) (chained (k + x.methods.count) rs) h).1 w.1 e in
    let l = length_part x.methods ms w.0 in
    omega arith

pub count_own : (P : Program) (c : ℕ) → 4 ≤ c → count_methods (take c (table P)) ≡ count_methods (take (c - 4) P)
count_own P zero h = absurd (omega arith)
count_own P (suc zero) h = absurd (omega arith)
count_own P (suc (suc zero)) h = absurd (omega arith)
count_own P (suc (suc (suc zero))) h = absurd (omega arith)
count_own P (suc (suc (suc (suc c)))) h =
    let e : c ≡ suc (suc (suc (suc c))) - 4 = omega arith in
    let k = ap (λ i. count_methods (take i P)) e in
    omega arith

no_record : ClassRec
no_record = record { superclass = 0; fields = record { first = 0; count = 0 }; methods = record { first = 0; count = 0 } }

module _ (t : Tables) where
  pub length_views : length (method_views t) ≡ length (methods_of t)
  length_views = length-map (methods_of t) (method_view (params_of t) (instrs_of t) (handlers_of t))

  pub methods_within : AllByRecursion (MethodsWithin (length (methods_of t))) (classes_of t)
  methods_within = all_along (MethodsWithin (length (methods_of t))) (classes_of t) no_record t.class_methods

  pub fields_within : AllByRecursion (FieldsWithin (length (fields_of t))) (classes_of t)
  fields_within = all_along (FieldsWithin (length (fields_of t))) (classes_of t) no_record t.class_fields

  -- the spans of a class's record lie within the tables
  pub record_methods : (c : ℕ) (o : Option ClassRec) → record_at t c ≡ o → IfSome o (MethodsWithin (length (methods_of t)))
  record_methods c None e = tt
  record_methods c (Some r) e = all_nth (MethodsWithin (length (methods_of t))) (classes_of t) (c - 4) methods_within (record_nth t c r e).1

  pub record_fields : (c : ℕ) (o : Option ClassRec) → record_at t c ≡ o → IfSome o (FieldsWithin (length (fields_of t)))
  record_fields c None e = tt
  record_fields c (Some r) e = all_nth (FieldsWithin (length (fields_of t))) (classes_of t) (c - 4) fields_within (record_nth t c r e).1

  -- the number of a class's first method is where its span begins
  pub first_method : (c : ℕ) (r : ClassRec) → record_at t c ≡ Some r → count_methods (take c (table (program_of t))) ≡ r.methods.first
  unfolding program_of
  first_method c r e =
      let n = record_nth t c r e in
      let w : AllByRecursion (MethodsWithin (length (method_views t))) (classes_of t) = rw length_views methods_within in
      let f = chained_first (fields_of t) (method_views t) 0 (classes_of t) (c - 4) r t.numbered w n.1 in
      count_own (program_of t) c n.0 ∙ omega arith

  pub no_own_method : (c m : ℕ) → record_at t c ≡ None → own_method (program_of t) c m ≡ None
  unfolding own_method
  no_own_method c m e = rw (methods_at t c, e) refl

  -- o is what a search through the class's methods finds
  pub own_method_at : (c m : ℕ) (r : ClassRec) (o : Option ℕ) → record_at t c ≡ Some r →
      o ≡ position (λ (x : MethodRec). x.name) m (part r.methods (methods_of t)) →
      own_method (program_of t) c m ≡ later r.methods.first o
  unfolding own_method
  own_method_at c m r o e p =
      let n = record_nth t c r e in
      let v = method_view (params_of t) (instrs_of t) (handlers_of t) in
      rw (
        methods_at t c,
        first_method c r e,
        e,
        part_map v r.methods (methods_of t),
        position_map (λ (x : MethodDecl). x.name) v m (part r.methods (methods_of t)),
        p,
      ) refl
