-- The handler's range, then what the instruction may throw.
use Rattle.std.proofs.Common.{rules}
use Rattle.jinja.specs.Transfer.{is_relevant}
use Rattle.type_rows.proofs.method.Method.is_relevant.Goals as goal

pub returns-then-covers : goal.returns-then-covers
unfolding is_relevant
returns-then-covers c = search rules

pub returns-else-covers : goal.returns-else-covers
unfolding is_relevant
returns-else-covers c = search rules
