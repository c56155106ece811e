-- Tables with one more method.
use Rattle.std.proofs.Common.{◌≡◌, ℕ, ◌+◌, ◌-◌, ◌≤◌, true, false, List, [], ◌∷◌, ◌++◌, map, length, take, drop, Ok, Err, sym, refl, ap, ◌∙◌, arith}
use Rattle.std.proofs.lemmas.List.{length_push, map_push, drop-map, drop-append-le, take_at}
use Rattle.jinja.specs.declared.ty.Ty.{Ty}
use Rattle.jinja.specs.declared.instr.Instr.{Instr}
use Rattle.jinja.specs.declared.program.Handler.{Handler}
use Rattle.jinja.specs.Program.{MethodDecl}
use Rattle.jinja.specs.Classes.{maybe}
use Rattle.format.specs.Limits.{max_name, max_params}
use Rattle.format.specs.Rules.{unused, method_name, count_code, count_handlers, program_code, program_handlers}
use Rattle.format.specs.Reading.{Read, then, checked, at_most}
use Rattle.format.specs.Parse.{name_at}
use Rattle.format.specs.declared.fault.TableFault.TheVariants.{Twice}
use Rattle.tables.specs.declared.records.Span.{Span}
use Rattle.tables.specs.declared.records.MethodRec.{MethodRec}
use Rattle.tables.specs.declared.tables.Tables.{Tables}
use Rattle.tables.specs.Spans.{Within}
use Rattle.tables.specs.Views.{classes_of, fields_of, methods_of, params_of, instrs_of, handlers_of, method_view, method_views}
use Rattle.tables.proofs.Spans.{length_part}
use Rattle.tables.proofs.Positions.{position_map}
use Rattle.tables.proofs.Numbering.{length_views}
use Rattle.set.specs.Grown.{Behind, lists_of}
use Rattle.set.specs.Progress.{mine, Tallied, MoreMethods}
use Rattle.set.proofs.Cut.{cut_all}
use Rattle.set.proofs.Extends.{front_same, methods_kept, Extends, params_within, code_within, handlers_within, program_kept}
use Rattle.set.proofs.Kept.{kept_classes, kept_fields, kept_methods, kept_instrs, kept_handlers}

-- the names of the methods are those of the records
pub names_mine : (file : List ℕ) (t : Tables) (first p : ℕ) (rs : List MethodRec) → rs ≡ methods_of t →
    name_at file method_name (mine first t) p ≡ name_at file (λ (m : MethodRec). m.name) (take (length rs - first) (drop first rs)) p
names_mine file t first p rs e =
    let own = take (length rs - first) (drop first rs) in
    let view = method_view (params_of t) (instrs_of t) (handlers_of t) in
    let cut : drop first (methods_of t) ≡ own = sym (cut_all first rs (methods_of t) e) in
    let same : (n : ℕ) → unused method_name n (mine first t) ≡ unused (λ (m : MethodRec). m.name) n own =
    λ n. ap (unused method_name n) (drop-map view first (methods_of t) ∙ ap (map view) cut) ∙ ap (λ o. maybe o true (λ _. false)) (position_map method_name view n own) in
    let Goal : Read ℕ → Type 0 = λ x. then x (λ n q. checked (unused method_name n (mine first t)) (Twice p) (Ok (n, q)))
    ≡ then x (λ n q. checked (unused (λ (m : MethodRec). m.name) n own) (Twice p) (Ok (n, q))) in
    let go : (x : Read ℕ) → Goal x = λ x. elim x as Goal [ Ok r ↦ ap (λ b. checked b (Twice p) (Ok (r.0, r.1))) (same r.0) | Err f ↦ refl ] in
    go (at_most file max_name p)

pub behind_as : {X : Type 0} {old old' new new' : List X} {s : Span} → old' ≡ old → new' ≡ new → Behind old new s → Behind old' new' s
behind_as e f b = rw (e, f) b

pub behind_within : {X : Type 0} {old new : List X} {s : Span} → Behind old new s → Within (length new) s
behind_within b = omega (arith, b.all)

-- parameter types alone change no class and no method
pub params_extend : (t u : Tables) (s : Span) → lists_of u ≡ record (lists_of t) { params = params_of u } → Behind (params_of t) (params_of u) s → Extends t u
params_extend t u s o b =
    record {
      classes = (kept_classes o);
      fields = front_same _ _ (kept_fields o);
      methods = front_same _ _ (kept_methods o);
      params = b.front;
      instrs = front_same _ _ (kept_instrs o);
      handlers = front_same _ _ (kept_handlers o);
    }

pub view_as : {ps ps' : List Ty} {is is' : List Instr} {hs hs' : List Handler} → ps' ≡ ps → is' ≡ is → hs' ≡ hs → (r : MethodRec) → method_view ps' is' hs' r ≡ method_view ps is hs r
view_as a b c r = rw (a, b, c) refl

count_code_push : (ms : List MethodDecl) (m : MethodDecl) → count_code (ms ++ m ∷ []) ≡ count_code ms + length m.code
count_code_push [] m = omega arith
count_code_push (x ∷ ms) m = rw (count_code_push ms m) (omega arith)

count_handlers_push : (ms : List MethodDecl) (m : MethodDecl) → count_handlers (ms ++ m ∷ []) ≡ count_handlers ms + length m.handlers
count_handlers_push [] m = omega arith
count_handlers_push (x ∷ ms) m = rw (count_handlers_push ms m) (omega arith)

module _ (t u : Tables) (r : MethodRec) (classes : classes_of u ≡ classes_of t) (fields : fields_of u ≡ fields_of t) (methods : methods_of u ≡ methods_of t ++ r ∷ [])
    (params : Behind (params_of t) (params_of u) r.params) (code : Behind (instrs_of t) (instrs_of u) r.code) (handlers : Behind (handlers_of t) (handlers_of u) r.handlers) where
  grown : Extends t u
  grown =
      record {
        classes = classes;
        fields = front_same _ _ fields;
        methods = ap (take (length (methods_of t))) methods ∙ take_at (methods_of t) (r ∷ []) (length (methods_of t)) refl;
        params = params.front;
        instrs = code.front;
        handlers = handlers.front;
      }

  views_more : method_views u ≡ method_views t ++ method_view (params_of u) (instrs_of u) (handlers_of u) r ∷ []
  views_more =
      let view = method_view (params_of u) (instrs_of u) (handlers_of u) in
      ap (map view) methods ∙ (map_push view (methods_of t) r
      ∙ ap (λ xs. xs ++ view r ∷ []) (methods_kept (params_of t) (params_of u) (instrs_of t) (instrs_of u) (handlers_of t) (handlers_of u) params.front code.front handlers.front (methods_of t) (params_within t) (code_within t) (handlers_within t)))

  one : length (methods_of u) ≡ length (methods_of t) + 1
  one = ap length methods ∙ length_push (methods_of t) r

  pub method_more : MoreMethods 1 t u
  method_more = record { methods = one; classes = classes; fields = fields; program = program_kept t u grown }

  module _ (first : ℕ) (tallied : Tallied first t) where
    pub mine_more : mine first u ≡ mine first t ++ method_view (params_of u) (instrs_of u) (handlers_of u) r ∷ []
    mine_more =
        let l : first ≤ length (method_views t) = omega (arith, tallied.within, length_views t) in
        ap (drop first) views_more ∙ drop-append-le first (method_views t) (method_view (params_of u) (instrs_of u) (handlers_of u) r ∷ []) l

    pub tallied_more : r.params.count ≤ max_params → Tallied first u
    tallied_more few =
        let m = method_view (params_of u) (instrs_of u) (handlers_of u) r in
        let lc : length m.code ≡ r.code.count = length_part r.code (instrs_of u) (behind_within code) in
        let lh : length m.handlers ≡ r.handlers.count = length_part r.handlers (handlers_of u) (behind_within handlers) in
        let kept = program_kept t u grown in
        let cc' = ap count_code mine_more ∙ count_code_push (mine first t) m in
        let ch = ap count_handlers mine_more ∙ count_handlers_push (mine first t) m in
        let pc = ap program_code kept in
        let ph = ap program_handlers kept in
        record {
          within = omega (arith, tallied.within, one);
          code = omega (arith, code.all, code.first, tallied.code);
          handlers = omega (arith, handlers.all, handlers.first, tallied.handlers);
          params = omega (arith, params.all, params.first, tallied.params, one);
        }

pub no_more : (t : Tables) → MoreMethods 0 t t
no_more t = record { methods = omega arith; classes = refl; fields = refl; program = refl }

pub more_by : (j k : ℕ) (t u v : Tables) → MoreMethods j t u → MoreMethods k u v → MoreMethods (j + k) t v
more_by j k t u v a b =
    record { methods = omega (arith, a.methods, b.methods); classes = b.classes ∙ a.classes; fields = b.fields ∙ a.fields; program = b.program ∙ a.program }

pub more_as : (j k : ℕ) (t u : Tables) → j ≡ k → MoreMethods j t u → MoreMethods k t u
more_as j k t u e a = rw e at a
