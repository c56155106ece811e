-- Named from the proofs of the theorems.
use Rattle.jinja.proofs.History.{histories_keep, typable_histories_keep}
use Rattle.jinja.proofs.laws.histories_keep.Goals as goal

pub returns : goal.returns
returns c = record { least = histories_keep; typable = typable_histories_keep }
