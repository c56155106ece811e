-- Named from the proof of the theorem.
use Rattle.jinja.proofs.Order.{least_unique}
use Rattle.jinja.proofs.laws.least_is_unique.Goals as goal

pub returns : goal.returns
returns c = least_unique
