-- Argument by argument, in the order of the parameters.
use Rattle.std.proofs.Common.{◌≡◌, length, sym, ◌∙◌, arith}
use Rattle.tables.specs.Views.{program_of}
use Rattle.type_rows.specs.Calling.{arguments}
use Rattle.type_rows.specs.TypeFrames.{frame_types}
use Rattle.type_rows.proofs.CallTypes.{arguments_length, lengths_differ, argument_fits, argument_fails, all_fit}
use Rattle.type_rows.proofs.calls.arguments_fit.Goals as goal

pub returns-then-params-n : goal.returns-then-params-n
returns-then-params-n c =
    let st = frame_types c.args.frame.now in
    let a = arguments_length c.args.n st (omega (arith, c.requires)) in
    sym (lengths_differ (program_of c.args.tables.now) (arguments c.args.n st) c.args.params.now (λ e. c.if-params-n.true (omega arith)))

pub returns-then-not-lies_below : goal.returns-then-not-lies_below
returns-then-not-lies_below c =
    let st = frame_types c.args.frame.now in
    let n = c.args.n in
    let long : length c.args.params.now ≡ n = omega (arith, c.if-params-n.false) in
    sym (argument_fails (program_of c.args.tables.now) n st c.args.params.now c.loop-j.j c.in-Some.t _ _ (omega (arith, c.requires)) (omega (arith, c.loop-j-test.true)) long c.in-Some.ensures (sym c.if-not-lies_below.ensures)) ∙ c.loop-j.invariant

pub loop-j-preserved : goal.loop-j-preserved
loop-j-preserved c =
    let st = frame_types c.args.frame.now in
    let n = c.args.n in
    let long : length c.args.params.now ≡ n = omega (arith, c.if-params-n.false) in
    argument_fits (program_of c.args.tables.now) n st c.args.params.now c.loop-j.j c.in-Some.t _ _ (omega (arith, c.requires)) (omega (arith, c.loop-j-test.true)) long c.in-Some.ensures (sym c.if-not-lies_below.ensures) ∙ c.loop-j.invariant

pub returns : goal.returns
returns c =
    let st = frame_types c.args.frame.now in
    let n = c.args.n in
    let a = arguments_length n st (omega (arith, c.requires)) in
    sym (all_fit (program_of c.args.tables.now) (arguments n st) c.args.params.now c.loop-j.j (omega arith) (omega arith)) ∙ c.loop-j.invariant
