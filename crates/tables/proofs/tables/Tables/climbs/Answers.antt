-- The way up from a class to another.
use Rattle.std.proofs.Common.{◌≡◌, ◌-◌, ◌+◌, eqb, sym, refl, ◌∙◌, inl, inr, arith}
use Rattle.jinja.specs.Classes.{climbs, at_or_below}
use Rattle.tables.specs.Views.{program_of}
use Rattle.tables.proofs.Climbs.{climbs_here, climbs_object, climbs_last, climbs_on}
use Rattle.tables.proofs.tables.Tables.climbs.Goals as goal

pub returns-then-at-d : goal.returns-then-at-d
unfolding at_or_below
returns-then-at-d c =
    let P = program_of c.args.self.now in
    let left = c.args.steps - c.loop.counter in
    let e : climbs P left c.loop.at c.args.d ≡ eqb c.loop.at c.args.d =
    elim c.then-at-d.either [ inl h ↦ climbs_here P left c.loop.at c.args.d h | inr h ↦ climbs_object P left c.loop.at c.args.d h.1 ] in
    record { climb = sym e ∙ c.loop.invariant; all = refl }

pub loop-preserved : goal.loop-preserved
loop-preserved c =
    let P = program_of c.args.self.now in
    let left = c.args.steps - c.loop.counter in
    let on = climbs_on P left c.loop.at c.args.d c.if-at-d.false (omega arith) in
    let one : c.args.steps - (c.loop.counter + 1) ≡ left - 1 = omega arith in
    rw (one, c.superclass-at.ensures) (sym on ∙ c.loop.invariant)

pub returns : goal.returns
unfolding at_or_below
returns c =
    let P = program_of c.args.self.now in
    let last = climbs_last P (c.args.steps - c.loop.counter) c.loop.at c.args.d (omega arith) in
    record { climb = sym last ∙ c.loop.invariant; all = refl }
