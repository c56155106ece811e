-- Named from the proof of the theorem.
use Rattle.jinja.proofs.Machine.{machine_laws}
use Rattle.jinja.proofs.laws.machine_laws.Goals as goal

pub returns : goal.returns
returns c = machine_laws
