-- Spans of flat tables. Assumes nothing.
use Rattle.std.specs.Prelude.{ℕ, ◌+◌, ◌≤◌, Bool, true, ◌&&◌, List, [], ◌∷◌, take, drop, ◌==◌}
use Rattle.tables.specs.declared.records.Span.{Span}
use Rattle.tables.specs.declared.records.ClassRec.{ClassRec}
use Rattle.tables.specs.declared.records.MethodRec.{MethodRec}

-- the items of a span
abbrev pub part : {A : Type 0} → Span → List A → List A
part s xs = take s.count (drop s.first xs)

-- the span lies within the first n items
abbrev pub Within : ℕ → Span → Type 0
Within n s = s.first + s.count ≤ n

abbrev pub FieldsWithin : ℕ → ClassRec → Type 0
FieldsWithin n r = Within n r.fields

abbrev pub MethodsWithin : ℕ → ClassRec → Type 0
MethodsWithin n r = Within n r.methods

abbrev pub ParamsWithin : ℕ → MethodRec → Type 0
ParamsWithin n r = Within n r.params

abbrev pub CodeWithin : ℕ → MethodRec → Type 0
CodeWithin n r = Within n r.code

abbrev pub HandlersWithin : ℕ → MethodRec → Type 0
HandlersWithin n r = Within n r.handlers

-- the methods of the classes stand one behind the other from k on
abbrev pub chained : ℕ → List ClassRec → Bool
chained k [] = true
chained k (r ∷ rs) = r.methods.first == k && chained (k + r.methods.count) rs
