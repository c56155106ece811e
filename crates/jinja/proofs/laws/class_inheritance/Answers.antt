-- Named from the proof of the theorem.
use Rattle.jinja.proofs.Inheritance.{inheritance}
use Rattle.jinja.proofs.laws.class_inheritance.Goals as goal

pub returns : goal.returns
returns c = inheritance
