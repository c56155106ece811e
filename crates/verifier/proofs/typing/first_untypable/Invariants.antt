-- Each method so far has a well-typing.
use Rattle.std.proofs.Common.{ℕ, ◌<◌}
use Rattle.set.specs.Sets.{set_program}
use Rattle.verifier.specs.Verdicts.{TypedAt}
use Rattle.verifier.proofs.typing.first_untypable.Given as goal

abbrev pub invariant-loop-k : goal.invariant-loop-k
invariant-loop-k l = (j : ℕ) → j < l.k → TypedAt (set_program l.set) j
