-- The row that is left ends at `end`, and what stands behind it is written.
use Rattle.std.proofs.Common.{◌≡◌, ℕ, ◌<◌, ◌≤◌, length, get_or}
use Rattle.std.specs.List.{slice_get}
use Rattle.heap.specs.declared.value.Value.TheVariants.{Unit as unit}
use Rattle.jinja.specs.Lookups.{fields_within, fields_of}
use Rattle.jinja.specs.Values.{start_row}
use Rattle.tables.specs.Views.{program_of}
use Rattle.engine.proofs.creating.start_row.Given as goal

abbrev pub invariant-loop-c : goal.invariant-loop-c
invariant-loop-c l =
    (l.end ≡ length (fields_within (program_of l.tables) l.left l.at))
    × (l.end ≤ length l.initial.row)
    × ((i : ℕ) → i < l.end → slice_get (fields_within (program_of l.tables) l.left l.at) i ≡ slice_get (fields_of (program_of l.tables) l.c) i)
    × ((k : ℕ) → l.end ≤ k → k < length l.initial.row → get_or l.row k unit ≡ get_or (start_row (program_of l.tables) l.c) k unit)

abbrev pub decreases-loop-c : goal.decreases-loop-c
decreases-loop-c l = l.left
