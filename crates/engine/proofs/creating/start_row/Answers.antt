-- The way up, with the values written from the last one on.
use Rattle.std.proofs.Common.{◌≡◌, ◌-◌, length, sym, refl, ap, ◌∙◌, arith}
use Rattle.std.proofs.lemmas.List.{length-map, take_all}
use Rattle.jinja.specs.declared.program.Field.{Field}
use Rattle.jinja.specs.Lookups.{own_fields, fields_within, fields_of}
use Rattle.jinja.specs.Values.{start_value, start_row}
use Rattle.tables.specs.Views.{program_of}
use Rattle.tables.proofs.Rows.{row_ends, row_above, length_row_above, nth_row_above}
use Rattle.engine.proofs.NewObjects.{row_written, row_whole}
use Rattle.engine.proofs.creating.start_row.Goals as goal

pub loop-c-init : goal.loop-c-init
unfolding fields_of
loop-c-init c =
    let n = length-map (fields_of (program_of c.args.tables.now) c.args.c) (λ (f : Field). start_value f.ty) in
    (omega (arith, n), omega arith, λ i l. refl, λ k l m. absurd (omega arith))

pub overflow_sub-start : goal.overflow_sub-start
overflow_sub-start c =
    let own = ap length c.own_fields-own.ensures.fields in
    omega (arith, row_ends (program_of c.args.tables.now) c.loop-c.left c.loop-c.at, c.loop-c.invariant.0)

pub start_own-requires : goal.start_own-requires
start_own-requires c =
    let own = ap length c.own_fields-own.ensures.fields in
    omega (arith, row_ends (program_of c.args.tables.now) c.loop-c.left c.loop-c.at, c.loop-c.invariant.0, c.loop-c.invariant.1)

pub returns-then-start-eq0 : goal.returns-then-start-eq0
returns-then-start-eq0 c =
    let P = program_of c.args.tables.now in
    let own = c.own_fields-own.result.now in
    let start = c.loop-c.end - length own in
    let v = c.loop-c.invariant in
    let written = row_written P c.loop-c.left c.loop-c.at c.args.c (length c.args.row.now) c.loop-c.end start own c.loop-c.row c.start_own.new.row c.own_fields-own.ensures.fields v.0 refl c.start_own.ensures.started c.start_own.ensures.above v.2 v.3 in
    sym (take_all (length c.args.row.now) c.start_own.new.row (omega arith)) ∙ row_whole c.start_own.new.row (length c.args.row.now) (start_row P c.args.c) c.requires (omega arith) (λ k l. written k (omega arith) l)

pub loop-c-preserved : goal.loop-c-preserved
loop-c-preserved c =
    let P = program_of c.args.tables.now in
    let left = c.loop-c.left in
    let at = c.loop-c.at in
    let own = c.own_fields-own.result.now in
    let all = ap length c.own_fields-own.ensures.fields in
    let start = c.loop-c.end - length own in
    let v = c.loop-c.invariant in
    let from : start ≡ length (fields_within P left at) - length (own_fields P at) = omega (arith, v.0, all) in
    let more = row_above P left at 0 start from (omega arith) in
    let written = row_written P left at c.args.c (length c.args.row.now) c.loop-c.end start own c.loop-c.row c.start_own.new.row c.own_fields-own.ensures.fields v.0 refl c.start_own.ensures.started c.start_own.ensures.above v.2 v.3 in
    rw c.superclass-at.ensures (
      length_row_above P left at start from more,
      omega (arith, v.1),
      λ i l. sym (nth_row_above P left at i start from l) ∙ v.2 i (omega arith),
      written,
    )
