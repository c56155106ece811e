-- Named from the proof of the theorem.
use Rattle.jinja.proofs.LeastTyping.{typable_has_least}
use Rattle.jinja.proofs.laws.typable_has_least.Goals as goal

pub returns : goal.returns
returns c = typable_has_least
