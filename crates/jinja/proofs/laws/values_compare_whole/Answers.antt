-- Named from the proof of the theorem.
use Rattle.jinja.proofs.Machine.{values_whole}
use Rattle.jinja.proofs.laws.values_compare_whole.Goals as goal

pub returns : goal.returns
returns c = values_whole
