-- Named from the proof of the theorem.
use Rattle.jinja.proofs.Climbs.{class_order}
use Rattle.jinja.proofs.laws.class_order.Goals as goal

pub returns : goal.returns
returns c = class_order
