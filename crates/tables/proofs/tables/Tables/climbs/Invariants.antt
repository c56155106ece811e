-- The way from here with the steps left arrives where the way from the start does.
use Rattle.std.proofs.Common.{◌≡◌, ◌-◌}
use Rattle.jinja.specs.Classes.{climbs}
use Rattle.tables.specs.Views.{program_of}
use Rattle.tables.proofs.tables.Tables.climbs.Given as goal

abbrev pub invariant-loop : goal.invariant-loop
invariant-loop l = climbs (program_of l.self) (l.steps - l.counter) l.at l.d ≡ climbs (program_of l.self) l.steps l.c l.d
