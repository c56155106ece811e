-- The way up to the class whose part of the row has the place.
use Rattle.std.proofs.Common.{◌≡◌, ◌+◌, ◌-◌, ◌<◌, length, sym, refl, ap, ◌∙◌, arith}
use Rattle.std.specs.List.{slice_get}
use Rattle.std.proofs.lemmas.Option.{slice_get-get_or, slice_get_past}
use Rattle.jinja.specs.Lookups.{fields_of, fields_within, own_fields}
use Rattle.tables.specs.Views.{program_of}
use Rattle.tables.proofs.Rows.{row_ends, nth_row_own, row_above, length_row_above, nth_row_above}
use Rattle.tables.proofs.tables.Tables.field_at.Goals as goal

pub returns-then-i-end : goal.returns-then-i-end
returns-then-i-end c = sym (slice_get_past (fields_of (program_of c.args.self.now) c.args.c) c.args.i (omega (arith, c.row_len-end.ensures.len)))

pub loop-init : goal.loop-init
unfolding fields_of
loop-init c = let none : c.args.c - 0 ≡ c.args.c = omega arith in rw none (c.row_len-end.ensures.len, c.if-i-end.false, refl)

pub overflow_sub-start : goal.overflow_sub-start
overflow_sub-start c =
    let own = ap length c.own_fields-own.ensures.fields in
    omega (arith, row_ends (program_of c.args.self.now) (c.args.c - c.loop.counter) c.loop.at, c.loop.invariant.0)

pub returns-then-i-start : goal.returns-then-i-start
unfolding fields_of
returns-then-i-start c =
    let P = program_of c.args.self.now in
    let own = ap length c.own_fields-own.ensures.fields in
    let start = c.loop.end - length c.own_fields-own.result.now in
    let e : start ≡ length (fields_within P (c.args.c - c.loop.counter) c.loop.at) - length (own_fields P c.loop.at) = omega (arith, c.loop.invariant.0) in
    let here : slice_get (fields_within P (c.args.c - c.loop.counter) c.loop.at) c.args.i ≡ slice_get (own_fields P c.loop.at) (c.args.i - start) =
    nth_row_own P (c.args.c - c.loop.counter) c.loop.at c.args.i start e c.if-i-start.true in
    let in_own : c.args.i - start < length c.own_fields-own.result.now = omega (arith, c.loop.invariant.1) in
    sym (sym c.loop.invariant.2 ∙ here ∙ ap (λ xs. slice_get xs (c.args.i - start)) (sym c.own_fields-own.ensures.fields) ∙ slice_get-get_or c.own_fields-own.result.now (c.args.i - start) _ in_own)

pub loop-preserved : goal.loop-preserved
loop-preserved c =
    let P = program_of c.args.self.now in
    let own = ap length c.own_fields-own.ensures.fields in
    let start = c.loop.end - length c.own_fields-own.result.now in
    let e : start ≡ length (fields_within P (c.args.c - c.loop.counter) c.loop.at) - length (own_fields P c.loop.at) = omega (arith, c.loop.invariant.0) in
    let more = row_above P (c.args.c - c.loop.counter) c.loop.at c.args.i start e c.if-i-start.false in
    let one : c.args.c - (c.loop.counter + 1) ≡ (c.args.c - c.loop.counter) - 1 = omega arith in
    rw (one, c.superclass-at.ensures) (
      length_row_above P (c.args.c - c.loop.counter) c.loop.at start e more,
      c.if-i-start.false,
      sym (nth_row_above P (c.args.c - c.loop.counter) c.loop.at c.args.i start e c.if-i-start.false) ∙ c.loop.invariant.2,
    )
