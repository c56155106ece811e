-- The records of a span are the methods that they stand for.
use Rattle.std.proofs.Common.{subst}
use Rattle.number.specs.Puts.{Puts}
use Rattle.writer.proofs.Programs.{methods_stand}
use Rattle.writer.proofs.records.put_methods.Goals as goal

pub returns : goal.returns
returns c = subst (Puts c.put_span.result _ _) (methods_stand c.args.tables.now c.args.span) c.put_span.ensures
