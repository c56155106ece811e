-- Every file has room in the longest one.
use Rattle.std.proofs.Common.{arith}
use Rattle.tables.specs.Views.{program_of}
use Rattle.writer.proofs.Longest.{at_longest}
use Rattle.writer.proofs.writing.file_len.Goals as goal

pub unreachable-requires : goal.unreachable-requires
unreachable-requires c = omega (arith, at_longest (program_of c.args.tables.now) c.requires, c.in-Err.ensures.answer)
