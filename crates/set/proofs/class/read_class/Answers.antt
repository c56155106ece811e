-- A class is read part by part, and pushed when all of it has stood the tests.
use Rattle.std.proofs.Common.{◌≡◌, ◌+◌, ◌*◌, ◌≤◌, [], length, Ok, sym, ap, ◌∙◌, arith}
use Rattle.std.proofs.lemmas.List.{length_push}
use Rattle.std.proofs.lemmas.Result.{err_from_is_err_and}
use Rattle.number.specs.Places.{file_of, place_of}
use Rattle.jinja.specs.Lookups.{count_methods}
use Rattle.format.specs.Limits.{max_fields}
use Rattle.format.specs.Reading.{then, counted}
use Rattle.format.specs.Parse.{field_at, methods_at}
use Rattle.tables.specs.declared.records.ClassRec.{ClassRec}
use Rattle.tables.specs.Views.{classes_of, fields_of, methods_of, method_views, program_of}
use Rattle.set.specs.Counts.{more_at, below_at}
use Rattle.set.proofs.AddedClass.{known_classes, fields_kept, whole_fields, tallied_fields, numbered_push, part_mine, program_push, full_push, class_as}
use Rattle.set.proofs.Checked.{fields_counted}
use Rattle.set.proofs.Kept.{kept_classes, kept_methods}
use Rattle.set.proofs.ClassWays.{no_superclass, no_fields, no_methods, one_class}
use Rattle.set.proofs.Ways.{moved}
use Rattle.set.proofs.class.read_class.Goals as goal

pub returns-in_err-superclass : goal.returns-in_err-superclass
returns-in_err-superclass c =
    let t = c.args.t.now in
    let file = file_of c.args.c.now in
    let p = err_from_is_err_and c.from_residual.result c.from_residual.ensures.1 in
    rw (p.1, p.2) (record {
      more = tt;
      went = record {
        file = c.in_err-superclass.ensures.file;
        gave = no_superclass file c.args.n (program_of t) (place_of c.args.c.now) c.in_err-superclass.field-0.0 (ap (λ k. below_at file k (place_of c.args.c.now)) (known_classes t ∙ ap (λ n. 4 + n) (sym c.len.ensures.count)) ∙ c.in_err-superclass.ensures.gave);
      };
    })

pub returns-in_err-fields : goal.returns-in_err-fields
returns-in_err-fields c =
    let t = c.args.t.now in
    let file = file_of c.args.c.now in
    let a_superclass = ap (λ k. below_at file k (place_of c.args.c.now)) (known_classes t ∙ ap (λ n. 4 + n) (sym c.len.ensures.count)) ∙ c.in_ok-superclass.ensures.gave in
    let f_superclass = c.in_ok-superclass.ensures.file in
    let p = err_from_is_err_and c.from_residual-in_err-fields.result c.from_residual-in_err-fields.ensures.1 in
    rw (p.1, p.2) (record {
      more = tt;
      went = record {
        file = c.in_err-fields.ensures.went.file ∙ f_superclass;
        gave = no_fields file c.args.n (program_of t) (place_of c.args.c.now) _ _ a_superclass c.in_err-fields.field-0.0 (fields_counted file c.args.n (program_of t) c.in_ok-superclass.superclass (place_of c.read_superclass.new.c) c.row_len-inherited.result (sym c.row_len-inherited.ensures.len)
            ∙ moved (λ x. then (more_at x c.row_len-inherited.result max_fields (place_of c.read_superclass.new.c)) (λ k q. counted (field_at x c.args.n) k [] q)) f_superclass c.in_err-fields.ensures.went.gave);
      };
    })

pub read_methods-requires : goal.read_methods-requires
read_methods-requires c =
    let t = c.args.t.now in
    let u = c.read_fields.new.t in
    let o = c.in_ok-fields.ensures.rest in
    let b = c.in_ok-fields.ensures.went.gave.1 in
    record { few = c.requires.few; whole = whole_fields t u c.in_ok-fields.fields o b c.requires.full; tallied = tallied_fields t u c.in_ok-fields.fields o b c.requires.full }

pub returns-in_err-methods : goal.returns-in_err-methods
returns-in_err-methods c =
    let t = c.args.t.now in
    let file = file_of c.args.c.now in
    let a_superclass = ap (λ k. below_at file k (place_of c.args.c.now)) (known_classes t ∙ ap (λ n. 4 + n) (sym c.len.ensures.count)) ∙ c.in_ok-superclass.ensures.gave in
    let f_superclass = c.in_ok-superclass.ensures.file in
    let a_fields = fields_counted file c.args.n (program_of t) c.in_ok-superclass.superclass (place_of c.read_superclass.new.c) c.row_len-inherited.result (sym c.row_len-inherited.ensures.len)
    ∙ moved (λ x. then (more_at x c.row_len-inherited.result max_fields (place_of c.read_superclass.new.c)) (λ k q. counted (field_at x c.args.n) k [] q)) f_superclass c.in_ok-fields.ensures.went.gave.0 in
    let f_fields = c.in_ok-fields.ensures.went.file ∙ f_superclass in
    let kept = fields_kept t c.read_fields.new.t c.in_ok-fields.fields c.in_ok-fields.ensures.rest c.in_ok-fields.ensures.went.gave.1 in
    let p = err_from_is_err_and c.from_residual-in_err-methods.result c.from_residual-in_err-methods.ensures.1 in
    rw (p.1, p.2) (record {
      more = tt;
      went = record {
        file = c.in_err-methods.ensures.went.file ∙ f_fields;
        gave = no_methods file c.args.n (program_of t) (place_of c.args.c.now) _ _ a_superclass _ _ a_fields c.in_err-methods.field-0.0 (moved (λ x. methods_at x c.args.n (program_of t) c.in_ok-superclass.superclass (place_of c.read_fields.new.c)) f_fields
            (sym (ap (λ P. methods_at (file_of c.read_fields.new.c) c.args.n P c.in_ok-superclass.superclass (place_of c.read_fields.new.c)) kept) ∙ c.in_err-methods.ensures.went.gave));
      };
    })

pub push_class-requires : goal.push_class-requires
push_class-requires c =
    let t = c.args.t.now in
    let v = c.read_methods.new.t in
    let o = c.in_ok-fields.ensures.rest in
    let b = c.in_ok-fields.ensures.went.gave.1 in
    let more = c.in_ok-methods.ensures.more in
    let kept = fields_kept t c.read_fields.new.t c.in_ok-fields.fields o b in
    let first : c.in_ok-methods.methods.first ≡ count_methods (program_of v) =
    c.in_ok-methods.ensures.first ∙ (ap length (kept_methods o) ∙ (sym c.requires.full.whole ∙ sym (ap count_methods (more.program ∙ kept)))) in
    let all : length (methods_of v) ≡ c.in_ok-methods.methods.first + c.in_ok-methods.methods.count = omega (arith, more.methods, c.in_ok-methods.ensures.first) in
    let k : ClassRec = record { superclass = c.in_ok-superclass.superclass; fields = c.in_ok-fields.fields; methods = c.in_ok-methods.methods } in
    let same = more.classes ∙ (kept_classes o) in
    record {
      room = omega (arith, c.requires.room, ap length same);
      fields = omega (arith, b.all, ap length more.fields);
      methods = omega arith;
      numbered = numbered_push v k first;
    }

pub returns : goal.returns
returns c =
    let t = c.args.t.now in
    let file = file_of c.args.c.now in
    let a_superclass = ap (λ k. below_at file k (place_of c.args.c.now)) (known_classes t ∙ ap (λ n. 4 + n) (sym c.len.ensures.count)) ∙ c.in_ok-superclass.ensures.gave in
    let f_superclass = c.in_ok-superclass.ensures.file in
    let a_fields = fields_counted file c.args.n (program_of t) c.in_ok-superclass.superclass (place_of c.read_superclass.new.c) c.row_len-inherited.result (sym c.row_len-inherited.ensures.len)
    ∙ moved (λ x. then (more_at x c.row_len-inherited.result max_fields (place_of c.read_superclass.new.c)) (λ k q. counted (field_at x c.args.n) k [] q)) f_superclass c.in_ok-fields.ensures.went.gave.0 in
    let f_fields = c.in_ok-fields.ensures.went.file ∙ f_superclass in
    let v = c.read_methods.new.t in
    let o = c.in_ok-fields.ensures.rest in
    let b = c.in_ok-fields.ensures.went.gave.1 in
    let more = c.in_ok-methods.ensures.more in
    let kept = fields_kept t c.read_fields.new.t c.in_ok-fields.fields o b in
    let first : c.in_ok-methods.methods.first ≡ count_methods (program_of v) =
    c.in_ok-methods.ensures.first ∙ (ap length (kept_methods o) ∙ (sym c.requires.full.whole ∙ sym (ap count_methods (more.program ∙ kept)))) in
    let all : length (methods_of v) ≡ c.in_ok-methods.methods.first + c.in_ok-methods.methods.count = omega (arith, more.methods, c.in_ok-methods.ensures.first) in
    let k : ClassRec = record { superclass = c.in_ok-superclass.superclass; fields = c.in_ok-fields.fields; methods = c.in_ok-methods.methods } in
    let same = more.classes ∙ (kept_classes o) in
    let a_methods = moved (λ x. methods_at x c.args.n (program_of t) c.in_ok-superclass.superclass (place_of c.read_fields.new.c)) f_fields
    (sym (ap (λ P. methods_at (file_of c.read_fields.new.c) c.args.n P c.in_ok-superclass.superclass (place_of c.read_fields.new.c)) kept) ∙ c.in_ok-methods.ensures.went.gave) in
    let u = c.push_class.new.t in
    let classes = c.push_class.ensures.classes in
    let few : length (fields_of v) ≤ max_fields * (length (classes_of v) + 1) = omega (arith, c.requires.full.fields, b.all, b.first, ap length more.fields, ap length same, c.in_ok-fields.ensures.most) in
    let program = program_push v u k c.push_class.ensures.rest classes in
    record {
      more = ap length classes ∙ (length_push (classes_of v) k ∙ ap (λ n. n + 1) (ap length same));
      went = record {
        file = c.in_ok-methods.ensures.went.file ∙ f_fields;
        gave = (
          one_class file c.args.n (program_of t) (place_of c.args.c.now) _ _ a_superclass _ _ a_fields _ _ a_methods
              ∙ ap (λ P. Ok (P, place_of c.read_methods.new.c)) (sym (program ∙ class_as _ _ _ _ (method_views v) _ k (more.program ∙ kept) more.fields (part_mine v c.in_ok-methods.methods all))),
          full_push v u k c.push_class.ensures.rest classes c.in_ok-methods.ensures.tallied first all few,
        );
      };
    }
