-- There is no method to type.
use Rattle.verifier.proofs.Unowned.{nothing_typable}
use Rattle.verifier.proofs.hold.of_nothing.Goals as goal

pub invariant_of-result : goal.invariant_of-result
invariant_of-result c = record { typed = ∣ nothing_typable _ c.requires ∣₁ }
