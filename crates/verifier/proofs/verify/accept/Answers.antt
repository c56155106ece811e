-- One table for each method.
use Rattle.verifier.proofs.Solved.{all_typable}
use Rattle.verifier.proofs.verify.accept.Goals as goal

pub invariant_of-result : goal.invariant_of-result
invariant_of-result c = record { typed = ∣ all_typable _ c.requires ∣₁ }
