-- Named from the proof of the theorem.
use Rattle.jinja.proofs.Look.{look_laws}
use Rattle.jinja.proofs.laws.look_laws.Goals as goal

pub returns : goal.returns
returns c = look_laws
