-- Tables that grow at their ends: what their spans hold stays as it was.
use Rattle.std.proofs.Common.{◌≡◌, ℕ, ◌+◌, ◌-◌, ◌≤◌, List, [], ◌∷◌, map, length, take, drop, sym, refl, ap, ◌∙◌, arith}
use Rattle.std.specs.List.{AllByRecursion}
use Rattle.std.proofs.lemmas.List.{length-map, take-map, take_all, drop-take, take-take}
use Rattle.jinja.specs.declared.ty.Ty.{Ty}
use Rattle.jinja.specs.declared.ty.Ty.TheVariants.{Void}
use Rattle.jinja.specs.declared.instr.Instr.{Instr}
use Rattle.jinja.specs.declared.program.Field.{Field}
use Rattle.jinja.specs.declared.program.Handler.{Handler}
use Rattle.jinja.specs.Program.{MethodDecl}
use Rattle.tables.specs.declared.records.Span.{Span}
use Rattle.tables.specs.declared.records.ClassRec.{ClassRec}
use Rattle.tables.specs.declared.records.MethodRec.{MethodRec}
use Rattle.tables.specs.declared.tables.Tables.{Tables}
use Rattle.tables.specs.Spans.{part, Within, FieldsWithin, MethodsWithin, ParamsWithin, CodeWithin, HandlersWithin}
use Rattle.tables.specs.Views.{classes_of, fields_of, methods_of, params_of, instrs_of, handlers_of, method_view, method_views, class_view, program_of}
use Rattle.tables.proofs.Spans.{all_along}
use Rattle.tables.proofs.Numbering.{length_views, methods_within, fields_within}

-- ys begins with xs
abbrev pub Front : {X : Type 0} → List X → List X → Type 0
Front xs ys = take (length xs) ys ≡ xs

pub front_same : {X : Type 0} (xs ys : List X) → ys ≡ xs → Front xs ys
front_same xs ys e = ap (take (length xs)) e ∙ take_all (length xs) xs (omega arith)

-- a span within the front
pub part_in : {X : Type 0} (s : Span) (n : ℕ) (xs : List X) → Within n s → part s (take n xs) ≡ part s xs
part_in s n xs h =
    let e : s.first + (n - s.first) ≡ n = omega arith in
    let d : drop s.first (take n xs) ≡ take (n - s.first) (drop s.first xs) = rw e at (drop-take s.first (n - s.first) xs) in
    let l : s.count ≤ n - s.first = omega arith in
    rw d (take-take s.count (n - s.first) (drop s.first xs) l)

part_front : {X : Type 0} (s : Span) (xs ys : List X) → Front xs ys → Within (length xs) s → part s ys ≡ part s xs
part_front s xs ys f w = sym (part_in s (length xs) ys w) ∙ ap (part s) f

module _ (ps ps' : List Ty) (is is' : List Instr) (hs hs' : List Handler) (p : Front ps ps') (i : Front is is') (h : Front hs hs') where
  pub methods_kept : (rs : List MethodRec) → AllByRecursion (ParamsWithin (length ps)) rs → AllByRecursion (CodeWithin (length is)) rs → AllByRecursion (HandlersWithin (length hs)) rs →
      map (method_view ps' is' hs') rs ≡ map (method_view ps is hs) rs
  methods_kept [] a b c = refl
  methods_kept (r ∷ rs) a b c =
      rw (part_front r.params ps ps' p a.0, part_front r.code is is' i b.0, part_front r.handlers hs hs' h c.0, methods_kept rs a.1 b.1 c.1) refl

module _ (fs fs' : List Field) (ms ms' : List MethodDecl) (f : Front fs fs') (m : Front ms ms') where
  classes_kept : (rs : List ClassRec) → AllByRecursion (FieldsWithin (length fs)) rs → AllByRecursion (MethodsWithin (length ms)) rs → map (class_view fs' ms') rs ≡ map (class_view fs ms) rs
  classes_kept [] a b = refl
  classes_kept (r ∷ rs) a b = rw (part_front r.fields fs fs' f a.0, part_front r.methods ms ms' m b.0, classes_kept rs a.1 b.1) refl

-- u has the classes of t, and each other table goes on where that of t ends
pub record Extends (t u : Tables) : Type 0 where
  pub classes : classes_of u ≡ classes_of t
  pub fields : Front (fields_of t) (fields_of u)
  pub methods : Front (methods_of t) (methods_of u)
  pub params : Front (params_of t) (params_of u)
  pub instrs : Front (instrs_of t) (instrs_of u)
  pub handlers : Front (handlers_of t) (handlers_of u)

pub no_method : MethodRec
no_method =
    let none : Span = record { first = 0; count = 0 } in
    record { name = 0; params = none; result = Void; height = 0; extras = 0; code = none; handlers = none }

module _ (t : Tables) where
  pub params_within : AllByRecursion (ParamsWithin (length (params_of t))) (methods_of t)
  params_within = all_along (ParamsWithin (length (params_of t))) (methods_of t) no_method t.method_params

  pub code_within : AllByRecursion (CodeWithin (length (instrs_of t))) (methods_of t)
  code_within = all_along (CodeWithin (length (instrs_of t))) (methods_of t) no_method t.method_code

  pub handlers_within : AllByRecursion (HandlersWithin (length (handlers_of t))) (methods_of t)
  handlers_within = all_along (HandlersWithin (length (handlers_of t))) (methods_of t) no_method t.method_handlers

module _ (t u : Tables) (e : Extends t u) where
  pub views_front : Front (method_views t) (method_views u)
  views_front =
      let view = method_view (params_of u) (instrs_of u) (handlers_of u) in
      ap (λ n. take n (method_views u)) (length-map (methods_of t) (method_view (params_of t) (instrs_of t) (handlers_of t)))
      ∙ (take-map view (length (methods_of t)) (methods_of u)
      ∙ (ap (map view) e.methods
      ∙ methods_kept (params_of t) (params_of u) (instrs_of t) (instrs_of u) (handlers_of t) (handlers_of u) e.params e.instrs e.handlers (methods_of t) (params_within t) (code_within t) (handlers_within t)))

  pub program_kept : program_of u ≡ program_of t
  unfolding program_of
  program_kept =
      ap (map (class_view (fields_of u) (method_views u))) e.classes
      ∙ classes_kept (fields_of t) (fields_of u) (method_views t) (method_views u) e.fields views_front (classes_of t) (fields_within t) (rw (length_views t) (methods_within t))
