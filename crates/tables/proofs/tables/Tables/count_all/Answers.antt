-- The built-in classes, and then the own ones.
use Rattle.std.proofs.Common.{arith}
use Rattle.tables.proofs.Programs.{length_program}
use Rattle.tables.proofs.tables.Tables.count_all.Goals as goal

pub returns : goal.returns
returns c = omega (arith, c.len.ensures.count, length_program c.args.self.now)
