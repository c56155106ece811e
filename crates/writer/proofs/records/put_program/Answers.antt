-- The records of the classes are the program that they stand for.
use Rattle.std.proofs.Common.{subst}
use Rattle.number.specs.Puts.{Puts}
use Rattle.writer.proofs.Programs.{classes_stand}
use Rattle.writer.proofs.records.put_program.Goals as goal

pub returns : goal.returns
returns c = subst (Puts c.put_classes.result _ _) (classes_stand c.args.tables.now) c.put_classes.ensures
