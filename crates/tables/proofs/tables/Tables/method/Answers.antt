-- Methods are numbered through the classes.
use Rattle.tables.proofs.Owners.{methods_numbered}
use Rattle.tables.proofs.tables.Tables.method.Goals as goal

pub returns-clause-numbered : goal.returns-clause-numbered
returns-clause-numbered c = methods_numbered c.args.self.now c.args.k
