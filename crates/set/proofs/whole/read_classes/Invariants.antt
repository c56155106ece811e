-- What is left to read gives the answer.
use Rattle.std.proofs.Common.{◌≡◌, ◌+◌, ◌-◌, ◌≤◌, length}
use Rattle.number.specs.Places.{file_of, place_of}
use Rattle.format.specs.Parse.{classes_at}
use Rattle.tables.specs.Views.{classes_of, program_of}
use Rattle.set.specs.Progress.{Full}
use Rattle.set.proofs.whole.read_classes.Given as goal

abbrev pub invariant-loop : goal.invariant-loop
invariant-loop l =
    (classes_at (file_of l.initial.c) l.n (l.count - l.counter) (program_of l.t) (place_of l.c) ≡ classes_at (file_of l.initial.c) l.n l.count (program_of l.initial.t) (place_of l.initial.c))
    × (file_of l.c ≡ file_of l.initial.c) × Full l.t × (length (classes_of l.t) + (l.count - l.counter) ≤ 28)
