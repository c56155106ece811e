-- What is left of the way up leads to the same class.
use Rattle.std.proofs.Common.{◌≡◌}
use Rattle.jinja.specs.Join.{meet_within, nearest}
use Rattle.tables.specs.Views.{program_of}
use Rattle.type_rows.proofs.types.nearest_common.Given as goal

abbrev pub invariant-loop-left : goal.invariant-loop-left
invariant-loop-left l = meet_within (program_of l.tables) l.left l.low l.other ≡ nearest (program_of l.tables) l.c l.d

abbrev pub decreases-loop-left : goal.decreases-loop-left
decreases-loop-left l = l.left
