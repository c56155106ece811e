-- What is left to read gives the answer.
use Rattle.std.proofs.Common.{◌≡◌, ◌-◌}
use Rattle.number.specs.Places.{file_of, place_of}
use Rattle.format.specs.Reading.{counted}
use Rattle.format.specs.Parse.{method_at}
use Rattle.tables.specs.Views.{program_of}
use Rattle.set.specs.Progress.{mine, Tallied, MoreMethods}
use Rattle.set.proofs.methods.add_methods.Given as goal

abbrev pub invariant-loop : goal.invariant-loop
invariant-loop l =
    (counted (method_at (file_of l.initial.c) l.n (program_of l.initial.t) l.s) (l.count - l.counter) (mine l.first l.t) (place_of l.c)
    ≡ counted (method_at (file_of l.initial.c) l.n (program_of l.initial.t) l.s) l.count (mine l.first l.initial.t) (place_of l.initial.c))
    × (file_of l.c ≡ file_of l.initial.c) × Tallied l.first l.t × MoreMethods l.counter l.initial.t l.t
