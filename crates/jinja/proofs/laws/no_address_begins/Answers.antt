-- Named from the proof of the theorem.
use Rattle.jinja.proofs.Look.{no_address_begins}
use Rattle.jinja.proofs.laws.no_address_begins.Goals as goal

pub returns : goal.returns
returns c = no_address_begins
