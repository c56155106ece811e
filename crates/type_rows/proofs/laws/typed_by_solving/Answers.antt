-- Named from the proof of the theorem.
use Rattle.type_rows.proofs.Typings.{typed_by_solving}
use Rattle.type_rows.proofs.laws.typed_by_solving.Goals as goal

pub returns : goal.returns
returns c = typed_by_solving
