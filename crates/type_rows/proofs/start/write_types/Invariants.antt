-- The numbers of the types so far, and the cells behind them as they were.
use Rattle.std.proofs.Common.{◌≡◌, ◌++◌, map, take, drop}
use Rattle.jinja.specs.Types.{type_number}
use Rattle.type_rows.proofs.start.write_types.Given as goal

abbrev pub invariant-loop-k : goal.invariant-loop-k
invariant-loop-k l = l.cells ≡ map type_number (take l.k l.types) ++ drop l.k l.initial.cells
