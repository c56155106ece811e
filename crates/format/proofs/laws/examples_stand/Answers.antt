use Rattle.format.proofs.Examples.{examples_stand}
use Rattle.format.proofs.laws.examples_stand.Goals as goal

pub returns : goal.returns
returns c = record { examples = examples_stand }
