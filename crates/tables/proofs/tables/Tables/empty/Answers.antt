-- Tables that hold nothing stand for no program.
use Rattle.std.proofs.Common.{refl}
use Rattle.tables.specs.Views.{program_of}
use Rattle.tables.proofs.tables.Tables.empty.Goals as goal

pub returns-clause-program : goal.returns-clause-program
unfolding program_of
returns-clause-program c = rw c.new.ensures refl
