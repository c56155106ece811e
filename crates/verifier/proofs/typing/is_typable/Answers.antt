-- The least solution is the least well-typing, and without a solution there is no well-typing.
use Rattle.std.proofs.Common.{sym, subst}
use Rattle.std.specs.Prelude.{Bool, MatchBool}
use Rattle.set.specs.Sets.{set_program}
use Rattle.verifier.specs.Verdicts.{TypedAt, UntypedAt}
use Rattle.verifier.proofs.Solved.{solved_exactly}
use Rattle.verifier.proofs.typing.is_typable.Goals as goal

pub returns-in-Some : goal.returns-in-Some
returns-in-Some c =
    let P = set_program c.args.set.now in
    subst (λ (b : Bool). MatchBool b (TypedAt P c.args.k) (UntypedAt P c.args.k)) (sym c.is_ok.ensures.value)
    (solved_exactly c.in-Some.method P c.args.k c.in-Some.ensures _ _ c.requires c.walk.result c.walk.ensures.answer)
