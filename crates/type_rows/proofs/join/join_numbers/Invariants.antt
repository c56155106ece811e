-- The cells so far are joined, with word whether that changed one.
use Rattle.tables.specs.Views.{program_of}
use Rattle.type_rows.proofs.JoinedNumbers.{JoinedSoFar}
use Rattle.type_rows.proofs.join.join_numbers.Given as goal

abbrev pub invariant-loop-k : goal.invariant-loop-k
invariant-loop-k l = JoinedSoFar (program_of l.tables) l.initial.cells l.others l.k l.cells l.changed
