-- Named from the proof of the theorem.
use Rattle.jinja.proofs.Join.{join_laws}
use Rattle.jinja.proofs.laws.join_is_least.Goals as goal

pub returns : goal.returns
returns c = join_laws
