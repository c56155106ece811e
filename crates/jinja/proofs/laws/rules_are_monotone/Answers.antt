-- Named from the proof of the theorem.
use Rattle.jinja.proofs.Monotone.{rules_monotone}
use Rattle.jinja.proofs.laws.rules_are_monotone.Goals as goal

pub returns : goal.returns
returns c = rules_monotone
