-- Tables with one more class.
use Rattle.std.proofs.Common.{◌≡◌, ℕ, ◌+◌, ◌*◌, ◌≤◌, true, eqb, List, [], ◌∷◌, ◌++◌, map, length, drop, sym, refl, ap, ◌∙◌, arith}
use Rattle.std.specs.List.{AllByRecursion}
use Rattle.std.proofs.lemmas.List.{length_push, length-drop, map_push, drop_all, take_all}
use Rattle.std.proofs.lemmas.Bool.{and_parts, and_from, eq-eqb}
use Rattle.jinja.specs.declared.program.Field.{Field}
use Rattle.jinja.specs.Program.{MethodDecl, ClassDecl, Program}
use Rattle.jinja.specs.Classes.{table}
use Rattle.jinja.specs.Lookups.{count_methods}
use Rattle.format.specs.Limits.{max_fields}
use Rattle.format.specs.Rules.{count_code, count_handlers, program_code, program_handlers}
use Rattle.tables.specs.declared.records.Span.{Span}
use Rattle.tables.specs.declared.records.ClassRec.{ClassRec}
use Rattle.tables.specs.declared.tables.Tables.{Tables}
use Rattle.tables.specs.Spans.{part, chained, Within, MethodsWithin}
use Rattle.tables.specs.Views.{classes_of, fields_of, methods_of, method_views, class_view, program_of}
use Rattle.tables.proofs.Spans.{length_part}
use Rattle.tables.proofs.Programs.{length_program}
use Rattle.tables.proofs.Numbering.{length_views, methods_within}
use Rattle.set.specs.Grown.{Behind, lists_of}
use Rattle.set.specs.Progress.{mine, Tallied, Full}
use Rattle.set.proofs.Extends.{front_same, program_kept}
use Rattle.set.proofs.Kept.{kept_classes, kept_fields, kept_methods, kept_params, kept_instrs, kept_handlers}

pub known_classes : (t : Tables) → length (table (program_of t)) ≡ 4 + (length (classes_of t))
known_classes t = omega (arith, length_program t)

-- fields alone change no class and no method
module _ (t u : Tables) (s : Span) (o : lists_of u ≡ record (lists_of t) { fields = fields_of u }) (b : Behind (fields_of t) (fields_of u) s) where
  pub fields_kept : program_of u ≡ program_of t
  fields_kept =
      program_kept t u (record {
        classes = (kept_classes o);
        fields = b.front;
        methods = front_same _ _ (kept_methods o);
        params = front_same _ _ (kept_params o);
        instrs = front_same _ _ (kept_instrs o);
        handlers = front_same _ _ (kept_handlers o);
      })

  views_same : method_views u ≡ method_views t
  views_same = rw ((kept_methods o), (kept_params o), (kept_instrs o), (kept_handlers o)) refl

  pub whole_fields : Full t → count_methods (program_of u) ≡ length (methods_of u)
  whole_fields full = ap count_methods fields_kept ∙ (full.whole ∙ sym (ap length (kept_methods o)))

  pub tallied_fields : Full t → Tallied (length (methods_of u)) u
  tallied_fields full =
      let n = ap length (kept_methods o) in
      let m : mine (length (methods_of u)) u ≡ mine (length (methods_of t)) t = ap (λ k. drop k (method_views u)) n ∙ ap (drop (length (methods_of t))) views_same in
      record {
        within = omega arith;
        code = ap length (kept_instrs o) ∙ (full.tallied.code ∙ sym (rw (fields_kept, m) refl));
        handlers = ap length (kept_handlers o) ∙ (full.tallied.handlers ∙ sym (rw (fields_kept, m) refl));
        params = omega (arith, full.tallied.params, n, ap length (kept_params o));
      }

chained_push : (fs : List Field) (ms : List MethodDecl) (k : ℕ) (rs : List ClassRec) (x : ClassRec) → chained k rs ≡ true → AllByRecursion (MethodsWithin (length ms)) rs →
    x.methods.first ≡ k + count_methods (map (class_view fs ms) rs) → chained k (rs ++ x ∷ []) ≡ true
chained_push fs ms k [] x h w e = and_from (eqb x.methods.first k) true (eq-eqb x.methods.first k (omega arith)) refl
chained_push fs ms k (r ∷ rs) x h w e =
    let p = and_parts (eqb r.methods.first k) (chained (k + r.methods.count) rs) h in
    let l = length_part r.methods ms w.0 in
    and_from (eqb r.methods.first k) _ p.0 (chained_push fs ms (k + r.methods.count) rs x p.1 w.1 (omega arith))

pub numbered_push : (t : Tables) (x : ClassRec) → x.methods.first ≡ count_methods (program_of t) → chained 0 (classes_of t ++ x ∷ []) ≡ true
unfolding program_of
numbered_push t x e = chained_push (fields_of t) (method_views t) 0 (classes_of t) x t.numbered (rw (length_views t) (methods_within t)) (omega arith)

count_methods_push : (P : Program) (d : ClassDecl) → count_methods (P ++ d ∷ []) ≡ count_methods P + length d.methods
count_methods_push [] d = omega arith
count_methods_push (x ∷ P) d = rw (count_methods_push P d) (omega arith)

program_code_push : (P : Program) (d : ClassDecl) → program_code (P ++ d ∷ []) ≡ program_code P + count_code d.methods
program_code_push [] d = omega arith
program_code_push (x ∷ P) d = rw (program_code_push P d) (omega arith)

program_handlers_push : (P : Program) (d : ClassDecl) → program_handlers (P ++ d ∷ []) ≡ program_handlers P + count_handlers d.methods
program_handlers_push [] d = omega arith
program_handlers_push (x ∷ P) d = rw (program_handlers_push P d) (omega arith)

-- the span of the last methods
pub part_mine : (t : Tables) (s : Span) → length (methods_of t) ≡ s.first + s.count → part s (method_views t) ≡ mine s.first t
part_mine t s e = take_all s.count (drop s.first (method_views t)) (rw length-drop (omega (arith, length_views t)))

module _ (t u : Tables) (k : ClassRec) (o : lists_of u ≡ record (lists_of t) { classes = classes_of u }) (classes : classes_of u ≡ classes_of t ++ k ∷ []) where
  same_views : method_views u ≡ method_views t
  same_views = rw ((kept_methods o), (kept_params o), (kept_instrs o), (kept_handlers o)) refl

  pub program_push : program_of u ≡ program_of t ++ class_view (fields_of t) (method_views t) k ∷ []
  unfolding program_of
  program_push =
      ap (map (class_view (fields_of u) (method_views u))) classes
      ∙ (ap (λ fs. map (class_view fs (method_views u)) (classes_of t ++ k ∷ [])) (kept_fields o)
      ∙ (ap (λ ms. map (class_view (fields_of t) ms) (classes_of t ++ k ∷ [])) same_views ∙ map_push (class_view (fields_of t) (method_views t)) (classes_of t) k))

  pub full_push : Tallied k.methods.first t → k.methods.first ≡ count_methods (program_of t) → length (methods_of t) ≡ k.methods.first + k.methods.count →
      length (fields_of t) ≤ max_fields * (length (classes_of t) + 1) → Full u
  full_push tallied first all few =
      let d = class_view (fields_of t) (method_views t) k in
      let w : Within (length (method_views t)) k.methods = omega (arith, all, length_views t) in
      let l : length d.methods ≡ k.methods.count = length_part k.methods (method_views t) w in
      let own : d.methods ≡ mine k.methods.first t = part_mine t k.methods all in
      let none : mine (length (methods_of u)) u ≡ [] = drop_all (length (methods_of u)) (method_views u) (omega (arith, length_views u)) in
      let n = ap length (kept_methods o) in
      record {
        whole = omega (arith, ap count_methods program_push, count_methods_push (program_of t) d);
        tallied = record {
          within = omega arith;
          code = omega (arith, ap length (kept_instrs o), tallied.code, ap program_code program_push, program_code_push (program_of t) d, ap count_code own, ap count_code none);
          handlers = omega (arith, ap length (kept_handlers o), tallied.handlers, ap program_handlers program_push, program_handlers_push (program_of t) d, ap count_handlers own, ap count_handlers none);
          params = omega (arith, tallied.params, n, ap length (kept_params o));
        };
        fields = omega (arith, few, ap length (kept_fields o), ap length classes, length_push (classes_of t) k);
      }

pub class_as : (P Q : Program) (fs fs' : List Field) (ms ms' : List MethodDecl) (k : ClassRec) → P ≡ Q → fs ≡ fs' → part k.methods ms ≡ ms' →
    P ++ class_view fs ms k ∷ [] ≡ Q ++ record { superclass = k.superclass; fields = part k.fields fs'; methods = ms' } ∷ []
class_as P Q fs fs' ms ms' k a b c = rw (a, b, c) refl
