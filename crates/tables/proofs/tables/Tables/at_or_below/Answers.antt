-- What is no class lies below nothing.
use Rattle.std.proofs.Common.{sym, refl}
use Rattle.jinja.specs.Classes.{at_or_below}
use Rattle.tables.proofs.tables.Tables.at_or_below.Goals as goal

pub returns-else-is_class : goal.returns-else-is_class
unfolding at_or_below
returns-else-is_class c = rw (c.if-is_class.false, sym c.if-is_class.ensures) refl
