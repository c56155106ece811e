-- Whether what is left of the arguments fits is whether all fit.
use Rattle.std.proofs.Common.{◌≡◌, drop}
use Rattle.jinja.specs.Transfer.{types_le}
use Rattle.tables.specs.Views.{program_of}
use Rattle.type_rows.specs.Calling.{arguments}
use Rattle.type_rows.specs.TypeFrames.{frame_types}
use Rattle.type_rows.proofs.calls.arguments_fit.Given as goal

abbrev pub invariant-loop-j : goal.invariant-loop-j
invariant-loop-j l = types_le (program_of l.tables) (drop l.j (arguments l.n (frame_types l.frame))) (drop l.j l.params) ≡ types_le (program_of l.tables) (arguments l.n (frame_types l.frame)) l.params
