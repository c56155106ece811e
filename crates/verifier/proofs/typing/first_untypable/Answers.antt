-- Method by method, and there are no more than the tables count.
use Rattle.std.proofs.Common.{◌<◌, ◌≤◌, length, ap, ⊎_elim, arith, below_more}
use Rattle.std.proofs.lemmas.Bool.{cases_lt}
use Rattle.tables.specs.declared.tables.Tables.{Tables}
use Rattle.tables.specs.Views.{methods_of}
use Rattle.set.specs.Sets.{set_program}
use Rattle.verifier.specs.Verdicts.{TypedAt}
use Rattle.verifier.proofs.Solved.{past_typed}
use Rattle.verifier.proofs.typing.first_untypable.Goals as goal

pub loop-k-preserved : goal.loop-k-preserved
loop-k-preserved c = below_more (TypedAt (set_program c.args.set.now)) c.loop-k.k c.loop-k.invariant c.if-not-is_typable.ensures

pub returns : goal.returns
returns c =
    λ k.
    ⊎_elim
    (λ (l : k < c.loop-k.k). c.loop-k.invariant k l)
    (λ (l : c.loop-k.k ≤ k). past_typed c.args.set.now k (omega (arith, c.loop-k-test.false, c.len-k-end.ensures.count, ap (λ (t : Tables). length (methods_of t)) c.tables.ensures)))
    (cases_lt k c.loop-k.k)
