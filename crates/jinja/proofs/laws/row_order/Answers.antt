-- Named from the proof of the theorem.
use Rattle.jinja.proofs.Order.{row_order}
use Rattle.jinja.proofs.laws.row_order.Goals as goal

pub returns : goal.returns
returns c = row_order
