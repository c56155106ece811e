-- A class whose spans lie within keeps the tables whole.
use Rattle.std.proofs.Common.{refl, ap, ◌∙◌}
use Rattle.std.proofs.lemmas.List.Elements.{All-push}
use Rattle.tables.specs.Spans.{FieldsWithin, MethodsWithin, chained}
use Rattle.tables.specs.Views.{classes_of}
use Rattle.set.proofs.push.push_class.Goals as goal

pub invariant_of-t : goal.invariant_of-t
invariant_of-t c =
    let t = c.args.t.now in
    let e = c.push.ensures.fits c.requires.room in
    record {
      class_fields = rw e (All-push (FieldsWithin _) (classes_of t) c.args.k t.class_fields c.requires.fields);
      class_methods = rw e (All-push (MethodsWithin _) (classes_of t) c.args.k t.class_methods c.requires.methods);
      method_params = t.method_params;
      method_code = t.method_code;
      method_handlers = t.method_handlers;
      numbered = ap (chained 0) e ∙ c.requires.numbered;
    }

pub returns : goal.returns
returns c = record { classes = c.push.ensures.fits c.requires.room; rest = refl }
