-- The place that the search finds, counted from the class's first method on.
use Rattle.std.proofs.Common.{length, Some, None, sym, ap, ◌∙◌, arith}
use Rattle.std.proofs.lemmas.List.{length-take}
use Rattle.jinja.specs.Lookups.{position}
use Rattle.tables.specs.declared.records.MethodRec.{MethodRec}
use Rattle.tables.specs.Spans.{part}
use Rattle.tables.proofs.Numbering.{no_own_method, own_method_at}
use Rattle.tables.proofs.tables.Tables.own_method.Goals as goal

pub returns-in_err-class : goal.returns-in_err-class
returns-in_err-class c = rw c.from_residual.ensures (sym (no_own_method c.args.self.now c.args.c c.args.name (sym c.in_err-class.ensures.record)))

pub returns-in_err-i : goal.returns-in_err-i
returns-in_err-i c =
    let own = c.all_of-own.ensures ∙ ap (part c.in_ok-class.class.methods) c.as_slice.ensures.items in
    let place = c.in_err-i.ensures.place ∙ ap (position (λ (x : MethodRec). x.name) c.args.name) own in
    rw c.from_residual-in_err-i.ensures
    (sym (own_method_at c.args.self.now c.args.c c.args.name c.in_ok-class.class None (sym c.in_ok-class.ensures.record) place))

pub overflow_add-result : goal.overflow_add-result
overflow_add-result c =
    let own = simp length-take at (ap length c.all_of-own.ensures) in
    omega (arith, own, c.in_ok-i.ensures.within, c.in_ok-class.ensures.methods, ap length c.as_slice.ensures.items, c.as_slice.ensures.within)

pub returns : goal.returns
returns c =
    let own = c.all_of-own.ensures ∙ ap (part c.in_ok-class.class.methods) c.as_slice.ensures.items in
    let place = c.in_ok-i.ensures.place ∙ ap (position (λ (x : MethodRec). x.name) c.args.name) own in
    sym (own_method_at c.args.self.now c.args.c c.args.name c.in_ok-class.class (Some c.in_ok-i.i) (sym c.in_ok-class.ensures.record) place)
