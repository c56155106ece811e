-- No classes, no program.
use Rattle.std.proofs.Common.{refl}
use Rattle.tables.specs.Views.{program_of}
use Rattle.set.proofs.push.clear.Goals as goal

pub returns-clause-program : goal.returns-clause-program
unfolding program_of
returns-clause-program c = rw c.clear.ensures refl
