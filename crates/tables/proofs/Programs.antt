-- What stands where in the program of tables.
use Rattle.std.proofs.Common.{◌≡◌, ℕ, zero, suc, ◌-◌, ◌<◌, ◌≤◌, List, [], ◌∷◌, map, length, Some, None, Option, refl, ap, inl, inr, arith}
use Rattle.std.specs.List.{slice_get}
use Rattle.std.proofs.lemmas.List.{length-map}
use Rattle.std.proofs.lemmas.Bool.{cases_lt, lt-ltb, le-ltb}
use Rattle.jinja.specs.Program.{ClassDecl, Program}
use Rattle.jinja.specs.Classes.{maybe, built_in, table, class_at, superclass_of}
use Rattle.jinja.specs.Lookups.{own_fields, own_methods}
use Rattle.tables.specs.declared.records.ClassRec.{ClassRec}
use Rattle.tables.specs.declared.tables.Tables.{Tables}
use Rattle.tables.specs.Spans.{part}
use Rattle.tables.specs.Views.{classes_of, fields_of, method_views, class_view, program_of}
use Rattle.tables.specs.Records.{record_at}

pub nth_map : {A B : Type 0} (f : A → B) (xs : List A) (i : ℕ) → slice_get (map f xs) i ≡ maybe (slice_get xs i) None (λ x. Some (f x))
nth_map f [] i = refl
nth_map f (x ∷ xs) zero = refl
nth_map f (x ∷ xs) (suc i) = nth_map f xs i

pub maybe_some : {A B C : Type 0} (o : Option A) (g : A → B) (c : C) (f : B → C) → maybe (maybe o None (λ a. Some (g a))) c f ≡ maybe o c (λ a. f (g a))
maybe_some None g c f = refl
maybe_some (Some a) g c f = refl

-- own classes stand behind the four built-in ones
pub nth_built_in : (P : Program) (c : ℕ) → c < 4 → slice_get (table P) c ≡ Some built_in
nth_built_in P zero h = refl
nth_built_in P (suc zero) h = refl
nth_built_in P (suc (suc zero)) h = refl
nth_built_in P (suc (suc (suc zero))) h = refl
nth_built_in P (suc (suc (suc (suc c)))) h = absurd (omega arith)

pub nth_own : (P : Program) (c : ℕ) → 4 ≤ c → slice_get (table P) c ≡ slice_get P (c - 4)
nth_own P zero h = absurd (omega arith)
nth_own P (suc zero) h = absurd (omega arith)
nth_own P (suc (suc zero)) h = absurd (omega arith)
nth_own P (suc (suc (suc zero))) h = absurd (omega arith)
nth_own P (suc (suc (suc (suc c)))) h = let e : c ≡ suc (suc (suc (suc c))) - 4 = omega arith in ap (slice_get P) e

module _ (t : Tables) where
  pub length_program : length (program_of t) ≡ length (classes_of t)
  unfolding program_of
  length_program = length-map (classes_of t) (class_view (fields_of t) (method_views t))

  pub nth_program : (i : ℕ) → slice_get (program_of t) i ≡ maybe (slice_get (classes_of t) i) None (λ r. Some (class_view (fields_of t) (method_views t) r))
  unfolding program_of
  nth_program i = nth_map (class_view (fields_of t) (method_views t)) (classes_of t) i

  -- what a class has is what its record has
  pub of_class : {X : Type 0} (c : ℕ) (x : X) (f : ClassDecl → X) → f built_in ≡ x → maybe (class_at (program_of t) c) x f ≡ maybe (record_at t c) x (λ r. f (class_view (fields_of t) (method_views t) r))
  of_class c x f e =
      elim (cases_lt c 4) [
        | inl h ↦ rw (nth_built_in (program_of t) c h, lt-ltb c 4 h) e
        | inr h ↦ rw (nth_own (program_of t) c h, le-ltb c 4 h, nth_program (c - 4)) (maybe_some (slice_get (classes_of t) (c - 4)) (class_view (fields_of t) (method_views t)) x f)
      ]

  pub superclass_at : (c : ℕ) → superclass_of (program_of t) c ≡ maybe (record_at t c) 0 (λ r. r.superclass)
  unfolding superclass_of
  superclass_at c = of_class c 0 (λ d. d.superclass) refl

  pub fields_at : (c : ℕ) → own_fields (program_of t) c ≡ maybe (record_at t c) [] (λ r. part r.fields (fields_of t))
  fields_at c = of_class c [] (λ d. d.fields) refl

  pub methods_at : (c : ℕ) → own_methods (program_of t) c ≡ maybe (record_at t c) [] (λ r. part r.methods (method_views t))
  methods_at c = of_class c [] (λ d. d.methods) refl

  pub record_built_in : (c : ℕ) → c < 4 → record_at t c ≡ None
  record_built_in c h = rw (lt-ltb c 4 h) refl

  pub record_own : (c : ℕ) → 4 ≤ c → record_at t c ≡ slice_get (classes_of t) (c - 4)
  record_own c h = rw (le-ltb c 4 h) refl

  -- only own classes have a record
  pub record_nth : (c : ℕ) (r : ClassRec) → record_at t c ≡ Some r → (4 ≤ c) × (slice_get (classes_of t) (c - 4) ≡ Some r)
  record_nth c r e =
      elim (cases_lt c 4) [
        | inl h ↦ absurd (let n = record_built_in c h in let z : ◌≡◌ {A = ℕ} 0 1 = cc in omega arith)
        | inr h ↦ (h, rw (le-ltb c 4 h) at e)
      ]
