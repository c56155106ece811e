-- A method whose spans lie within keeps the tables whole.
use Rattle.std.proofs.Common.{length, refl, ap, arith}
use Rattle.std.proofs.lemmas.List.{length_push}
use Rattle.std.proofs.lemmas.List.Elements.{All-push}
use Rattle.tables.specs.Spans.{ParamsWithin, CodeWithin, HandlersWithin}
use Rattle.tables.specs.Views.{methods_of}
use Rattle.set.proofs.push.push_method.Goals as goal

pub invariant_of-t : goal.invariant_of-t
invariant_of-t c =
    let t = c.args.t.now in
    let e = c.push.ensures.fits c.requires.room in
    let more = length_push (methods_of t) c.args.m in
    record {
      class_fields = t.class_fields;
      class_methods = λ k d l. omega (arith, ap length e, more, t.class_methods k d l);
      method_params = rw e (All-push (ParamsWithin _) (methods_of t) c.args.m t.method_params c.requires.params);
      method_code = rw e (All-push (CodeWithin _) (methods_of t) c.args.m t.method_code c.requires.code);
      method_handlers = rw e (All-push (HandlersWithin _) (methods_of t) c.args.m t.method_handlers c.requires.handlers);
      numbered = t.numbered;
    }

pub returns : goal.returns
returns c = record { methods = c.push.ensures.fits c.requires.room; rest = refl }
