-- Named from the proof of the theorem.
use Rattle.jinja.proofs.Safety.{type_safety}
use Rattle.jinja.proofs.laws.type_safety.Goals as goal

pub returns : goal.returns
returns c = type_safety
