use Rattle.std.proofs.Common.{◌≡◌, ℕ, ◌+◌, ◌<◌, get_or}
use Rattle.heap.specs.declared.value.Value.TheVariants.{Unit as unit}
use Rattle.jinja.specs.declared.program.Field.{Field}
use Rattle.jinja.specs.Values.{start_value}
use Rattle.engine.specs.Creating.{SameFrom}
use Rattle.engine.proofs.creating.start_own.Given as goal

abbrev pub invariant-loop-i : goal.invariant-loop-i
invariant-loop-i l =
    ((j : ℕ) (d : Field) → j < l.i → get_or l.row (l.start + j) unit ≡ start_value (get_or l.own j d).ty)
    × SameFrom (l.start + l.i) l.initial.row l.row
