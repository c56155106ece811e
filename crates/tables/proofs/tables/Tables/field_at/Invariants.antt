-- The row that is left ends at `end`, and has the field sought.
use Rattle.std.proofs.Common.{◌≡◌, ◌-◌, ◌<◌, length}
use Rattle.std.specs.List.{slice_get}
use Rattle.jinja.specs.Lookups.{fields_within}
use Rattle.tables.specs.Views.{program_of}
use Rattle.tables.proofs.tables.Tables.field_at.Given as goal

abbrev pub invariant-loop : goal.invariant-loop
invariant-loop l =
    (l.end ≡ length (fields_within (program_of l.self) (l.c - l.counter) l.at))
    × (l.i < l.end)
    × (slice_get (fields_within (program_of l.self) (l.c - l.counter) l.at) l.i ≡ slice_get (fields_within (program_of l.self) l.c l.c) l.i)
