-- What is counted is the row but for what lies above.
use Rattle.std.proofs.Common.{◌≡◌, ◌+◌, ◌-◌, ◌*◌, ◌≤◌, length}
use Rattle.jinja.specs.Lookups.{fields_within, own_fields}
use Rattle.tables.specs.Views.{program_of}
use Rattle.tables.proofs.tables.Tables.row_within.Given as goal

abbrev pub invariant-loop : goal.invariant-loop
invariant-loop l =
    (l.len + length (fields_within (program_of l.self) (l.steps - l.counter) l.at) ≡ length (fields_within (program_of l.self) l.steps l.c) + length (own_fields (program_of l.self) l.at))
    × (l.len ≤ 224 * (l.counter + 1))
