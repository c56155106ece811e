-- What is seen from here with the steps left is what is seen from the start.
use Rattle.std.proofs.Common.{◌≡◌, ◌-◌}
use Rattle.jinja.specs.Lookups.{sees_within}
use Rattle.tables.specs.Views.{program_of}
use Rattle.tables.proofs.tables.Tables.nearest.Given as goal

abbrev pub invariant-loop : goal.invariant-loop
invariant-loop l = sees_within (program_of l.self) (l.steps - l.counter) l.at l.name ≡ sees_within (program_of l.self) l.steps l.c l.name
