-- The way up to the nearest method of a name.
use Rattle.std.proofs.Common.{◌≡◌, ◌-◌, ◌+◌, sym, ap, ◌∙◌, inl, inr, arith}
use Rattle.jinja.specs.Lookups.{sees, sees_within}
use Rattle.tables.specs.Views.{program_of}
use Rattle.tables.proofs.Climbs.{sees_here, sees_object, sees_last, sees_on}
use Rattle.tables.proofs.tables.Tables.nearest.Goals as goal

pub returns-then-is_some : goal.returns-then-is_some
unfolding sees
returns-then-is_some c =
    let P = program_of c.args.self.now in
    let left = c.args.steps - c.loop.counter in
    let own = c.own_method-own.ensures in
    let e : sees_within P left c.loop.at c.args.name ≡ c.own_method-own.result =
    elim c.then-is_some.either [
      | inl h ↦ sees_here P left c.loop.at c.args.name c.own_method-own.result own (sym c.is_some.ensures ∙ h)
      | inr h ↦ sees_object P left c.loop.at c.args.name c.own_method-own.result own h.1
    ] in
    let all = sym e ∙ c.loop.invariant in
    record { climb = all; all = λ s. all ∙ ap (λ k. sees_within P k c.args.c c.args.name) s }

pub loop-preserved : goal.loop-preserved
loop-preserved c =
    let P = program_of c.args.self.now in
    let left = c.args.steps - c.loop.counter in
    let on = sees_on P left c.loop.at c.args.name c.own_method-own.result c.own_method-own.ensures (sym c.is_some.ensures ∙ c.if-is_some.false) (omega arith) in
    let one : c.args.steps - (c.loop.counter + 1) ≡ left - 1 = omega arith in
    rw (one, c.superclass-at.ensures) (sym on ∙ c.loop.invariant)

pub returns : goal.returns
unfolding sees
returns c =
    let P = program_of c.args.self.now in
    let last = sees_last P (c.args.steps - c.loop.counter) c.loop.at c.args.name c.own_method.result c.own_method.ensures (omega arith) in
    let all = sym last ∙ c.loop.invariant in
    record { climb = all; all = λ s. all ∙ ap (λ k. sees_within P k c.args.c c.args.name) s }
