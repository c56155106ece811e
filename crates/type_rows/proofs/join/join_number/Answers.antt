-- A cell joined with itself is itself.
use Rattle.tables.specs.Views.{program_of}
use Rattle.type_rows.proofs.JoinedSame.{joined_same}
use Rattle.type_rows.proofs.join.join_number.Goals as goal

pub returns-then-a-b-clause-joins : goal.returns-then-a-b-clause-joins
returns-then-a-b-clause-joins c = joined_same (program_of c.args.tables.now) c.args.a c.args.b c.if-a-b.true
