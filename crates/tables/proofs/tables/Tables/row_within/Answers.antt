-- The way up, with the fields counted on it.
use Rattle.std.proofs.Common.{◌≡◌, ◌+◌, ◌-◌, length, ap, ◌∙◌, arith}
use Rattle.std.proofs.lemmas.List.{length-append}
use Rattle.jinja.specs.Lookups.{fields_of, fields_within}
use Rattle.tables.specs.Views.{program_of}
use Rattle.tables.proofs.Climbs.{row_object, row_last, row_on}
use Rattle.tables.proofs.tables.Tables.row_within.Goals as goal

pub loop-init : goal.loop-init
loop-init c =
    let P = program_of c.args.self.now in
    let none : c.args.steps - 0 ≡ c.args.steps = omega arith in
    let all = ap (λ k. length (fields_within P k c.args.c)) none in
    (omega (arith, all, ap length c.own_fields-len.ensures.fields), omega (arith, c.own_fields-len.ensures.few))

pub returns-then-at-eq-OBJECT : goal.returns-then-at-eq-OBJECT
unfolding fields_of
returns-then-at-eq-OBJECT c =
    let P = program_of c.args.self.now in
    let here = row_object P (c.args.steps - c.loop.counter) c.loop.at c.if-at-eq-OBJECT.true in
    let all : c.loop.len ≡ length (fields_within P c.args.steps c.args.c) = omega (arith, c.loop.invariant.0, here) in
    record { climb = all; all = λ s. all ∙ ap (λ k. length (fields_within P k c.args.c)) s; few = omega (arith, c.loop.invariant.1, c.ranges.steps.fits) }

pub loop-preserved : goal.loop-preserved
loop-preserved c =
    let P = program_of c.args.self.now in
    let left = c.args.steps - c.loop.counter in
    let one : c.args.steps - (c.loop.counter + 1) ≡ left - 1 = omega arith in
    let on = simp length-append at (ap length (row_on P left c.loop.at (omega arith))) in
    let up = ap (λ d. length (fields_within P (left - 1) d)) c.superclass-at.ensures in
    let step = ap (λ k. length (fields_within P k c.superclass-at.result)) one in
    (omega (arith, c.loop.invariant.0, on, up, step, ap length c.own_fields.ensures.fields), omega (arith, c.loop.invariant.1, c.own_fields.ensures.few))

pub returns : goal.returns
unfolding fields_of
returns c =
    let P = program_of c.args.self.now in
    let last = ap length (row_last P (c.args.steps - c.loop.counter) c.loop.at (omega arith)) in
    let all : c.loop.len ≡ length (fields_within P c.args.steps c.args.c) = omega (arith, c.loop.invariant.0, last) in
    record { climb = all; all = λ s. all ∙ ap (λ k. length (fields_within P k c.args.c)) s; few = omega (arith, c.loop.invariant.1, c.ranges.steps.fits) }
