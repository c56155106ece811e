-- What an instruction sends from a row in use is a row in use. Assumes nothing.
use Rattle.std.specs.Prelude.{◌≡◌, ℕ, ◌≤◌, List, [], ◌∷◌, length, Some}
use Rattle.std.specs.List.{AllByRecursion}
use Rattle.jinja.specs.declared.ty.Ty.{Ty}
use Rattle.jinja.specs.declared.instr.Instr.{Instr}
use Rattle.jinja.specs.declared.program.Handler.{Handler}
use Rattle.jinja.specs.Program.{Program}
use Rattle.jinja.specs.Lookups.{Owned, method_at}
use Rattle.jinja.specs.WellFormed.{TypeExists, WellFormed}
use Rattle.jinja.specs.Rows.{Cell, CellExists, reached, registers, first_row}
use Rattle.jinja.specs.Rule.{Edge, edge, Rule}
use Rattle.jinja.proofs.SentRows.{CarriesAllowed, rule_sends_allowed, handler_sends_allowed, first_allowed}
use Rattle.type_rows.specs.Merging.{merged, InUse}
use Rattle.type_rows.specs.MergeOrder.{allowed_in_use}
use Rattle.type_rows.specs.Taking.{Suits, handler_edge}

-- an edge carries a row in use
abbrev pub CarriesRow : Program → Owned → Edge → Type 0
CarriesRow P M (edge p st lt) = InUse P M (merged (reached st lt))

all_in_use : (P : Program) (M : Owned) (es : List Edge) → AllByRecursion (CarriesAllowed P M) es → AllByRecursion (CarriesRow P M) es
all_in_use P M [] a = tt
all_in_use P M (edge p st lt ∷ es) a = (allowed_in_use a.0, all_in_use P M es a.1)

module _ {P : Program} (w : WellFormed P) {M : Owned} where
  -- the successors of an instruction get rows in use
  pub rule_sends_rows : {i : Instr} {pc : ℕ} {st : List Ty} {lt : List Cell} {es : List Edge} → AllByRecursion (TypeExists P) st → AllByRecursion (CellExists P) lt → length lt ≡ registers M → length st ≤ M.method.height → Rule P M i pc st lt es → AllByRecursion (CarriesRow P M) es
  rule_sends_rows {es = es} s l n h r = all_in_use P M es (rule_sends_allowed w s l n h r)

  -- and so does the target of a handler
  pub handler_sends_row : {st : List Ty} {lt : List Cell} (x : Handler) → AllByRecursion (TypeExists P) st → AllByRecursion (CellExists P) lt → length lt ≡ registers M → Suits P M st x → CarriesRow P M (handler_edge st lt x)
  handler_sends_row {st} x s l n k = allowed_in_use (handler_sends_allowed w x st s l n k.exists k.deep k.room)

-- a method begins with a row in use
pub first_in_use : {P : Program} (w : WellFormed P) {M : Owned} (k : ℕ) → method_at P k ≡ Some M → InUse P M (merged (first_row M))
first_in_use w k e = allowed_in_use (first_allowed w k e)
