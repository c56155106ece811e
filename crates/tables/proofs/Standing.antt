-- The record of a method, and where what it has lies in the tables.
use Rattle.std.proofs.Common.{◌≡◌, ℕ, ◌<◌, ◌≤◌, List, [], length, get_or, Some, None, Option, MatchOption, sym, ap, ◌∙◌}
use Rattle.std.specs.List.{slice_get}
use Rattle.std.proofs.lemmas.Option.{slice_get_past, slice_get_within, get_or_from_slice_get}
use Rattle.jinja.specs.Classes.{maybe}
use Rattle.tables.specs.declared.records.Span.{Span}
use Rattle.tables.specs.declared.records.MethodRec.{MethodRec}
use Rattle.tables.specs.declared.tables.Tables.{Tables}
use Rattle.tables.specs.Spans.{part, Within}
use Rattle.tables.specs.Views.{params_of, instrs_of, handlers_of, methods_of, method_view}
use Rattle.tables.specs.Methods.{method_of, params_in, code_in, handlers_in, Lies, Stands, Lacks}
use Rattle.tables.proofs.Programs.{nth_map}

lies : {X : Type 0} (s : Span) (xs ys : List X) → Within (length xs) s → ys ≡ part s xs → Lies s xs ys
lies s xs ys w e = record { within = w; items = sym e }

module _ (t : Tables) (k : ℕ) where
  pub method_stands : (m : MethodRec) → k < length (methods_of t) → slice_get (methods_of t) k ≡ Some m → Stands t k m
  method_stands m h e =
      let d : get_or (methods_of t) k m ≡ m = get_or_from_slice_get (methods_of t) k m m e in
      let v = method_view (params_of t) (instrs_of t) (handlers_of t) in
      let here : method_of t k ≡ Some (v m) = nth_map v (methods_of t) k ∙ ap (λ o. maybe o None (λ x. Some (v x))) e in
      record {
        method = here;
        params = lies m.params (params_of t) (params_in t k) (rw d at (t.method_params k m h)) (ap (λ o. maybe o [] (λ x. x.params)) here);
        code = lies m.code (instrs_of t) (code_in t k) (rw d at (t.method_code k m h)) (ap (λ o. maybe o [] (λ x. x.code)) here);
        handlers = lies m.handlers (handlers_of t) (handlers_in t k) (rw d at (t.method_handlers k m h)) (ap (λ o. maybe o [] (λ x. x.handlers)) here);
      }

  lacks : slice_get (methods_of t) k ≡ None → Lacks t k
  lacks e =
      let v = method_view (params_of t) (instrs_of t) (handlers_of t) in
      let here : method_of t k ≡ None = nth_map v (methods_of t) k ∙ ap (λ o. maybe o None (λ x. Some (v x))) e in
      record { method = here; params = ap (λ o. maybe o [] (λ m. m.params)) here; code = ap (λ o. maybe o [] (λ m. m.code)) here; handlers = ap (λ o. maybe o [] (λ m. m.handlers)) here }

  pub method_lacks : length (methods_of t) ≤ k → Lacks t k
  method_lacks h = lacks (slice_get_past (methods_of t) k h)

  -- what is looked up stands, or lacks
  pub method_standing : (o : Option MethodRec) → slice_get (methods_of t) k ≡ o → MatchOption o (Lacks t k) (Stands t k)
  method_standing None e = lacks e
  method_standing (Some m) e = method_stands m (slice_get_within (methods_of t) k m e) e
