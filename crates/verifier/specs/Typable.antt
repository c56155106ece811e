-- Programs whose methods all have a least well-typing. Assumes nothing.
use Rattle.std.specs.Prelude.{ℕ}
use Rattle.jinja.specs.Program.{Program}
use Rattle.jinja.specs.Rows.{Table}
use Rattle.jinja.specs.WellTyping.{LeastTypings}

-- a table for each method, which is its least well-typing
pub record Typable (P : Program) : Type 0 where
  pub tables : ℕ → Table
  pub least : LeastTypings P tables
