-- Named from the proof of the theorem.
use Rattle.jinja.proofs.Example.{example_stands}
use Rattle.jinja.proofs.laws.example_stands.Goals as goal

pub returns : goal.returns
returns c = example_stands
