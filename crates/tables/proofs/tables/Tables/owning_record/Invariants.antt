-- The method is not in the classes before, so it is that far into those that are left.
use Rattle.std.proofs.Common.{◌≡◌, ◌+◌, ◌-◌, ◌≤◌, take, drop}
use Rattle.std.specs.List.{slice_get}
use Rattle.jinja.specs.Lookups.{methods_from, method_at, count_methods}
use Rattle.tables.specs.Views.{program_of}
use Rattle.tables.proofs.tables.Tables.owning_record.Given as goal

abbrev pub invariant-loop-i : goal.invariant-loop-i
invariant-loop-i l =
    (count_methods (take l.i (program_of l.self)) ≤ l.k)
    × (slice_get (methods_from (4 + l.i) (drop l.i (program_of l.self))) (l.k - count_methods (take l.i (program_of l.self))) ≡ method_at (program_of l.self) l.k)
