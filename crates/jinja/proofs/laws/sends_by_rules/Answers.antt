-- Named from the proof of the theorem.
use Rattle.jinja.proofs.Sends.{sends_by_rules}
use Rattle.jinja.proofs.laws.sends_by_rules.Goals as goal

pub returns : goal.returns
returns c = sends_by_rules
