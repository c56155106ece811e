-- Well-typings of a method, and the least of them. Assumes nothing.
use Rattle.std.specs.Prelude.{◌≡◌, ℕ, ◌<◌, ◌≤◌, List, [], ◌∷◌, length, Some}
use Rattle.std.specs.List.{slice_get}
use Rattle.jinja.specs.declared.ty.Ty.{Ty}
use Rattle.jinja.specs.declared.ty.Ty.TheVariants.{Class}
use Rattle.jinja.specs.declared.instr.Instr.{Instr}
use Rattle.jinja.specs.declared.program.Handler.{Handler}
use Rattle.jinja.specs.Program.{Program}
use Rattle.jinja.specs.Classes.{IsClass}
use Rattle.jinja.specs.Lookups.{Owned, method_at}
use Rattle.jinja.specs.Rows.{Cell, reached, Table, first_row, RowOf}
use Rattle.jinja.specs.Order.{LeRow}
use Rattle.jinja.specs.Rule.{Edge, edge, Rule}
use Rattle.jinja.specs.Handlers.{Relevant, lowest, In}

-- the successor is in the method, and what it gets lies below its row
pub record Flows (P : Program) (M : Owned) (rows : Table) (p : ℕ) (st : List Ty) (lt : List Cell) : Type 0 where
  pub inside : p < length M.method.code
  pub below : LeRow P (reached st lt) (rows p)

pub data FlowAll (P : Program) (M : Owned) (rows : Table) : List Edge → Type 0 where
  no_more : FlowAll P M rows []
  flow : {p : ℕ} {st : List Ty} {lt : List Cell} {es : List Edge} → Flows P M rows p st lt → FlowAll P M rows es → FlowAll P M rows (edge p st lt ∷ es)

-- a relevant handler: its class exists, its depth suits, and its target gets the lowest cells with the class on top
pub record Caught (P : Program) (M : Owned) (rows : Table) (st : List Ty) (lt : List Cell) (x : Handler) : Type 0 where
  pub exists : IsClass P x.class
  pub deep : x.depth ≤ length st
  pub room : x.depth < M.method.height
  pub flows : Flows P M rows x.target (Class x.class ∷ lowest x.depth st) lt

-- a reached instruction: the needs hold, and the row of each successor and target takes what it gets
pub record Typed (P : Program) (M : Owned) (rows : Table) (i : Instr) (pc : ℕ) (st : List Ty) (lt : List Cell) : Type 0 where
  pub edges : List Edge
  pub rule : Rule P M i pc st lt edges
  pub flows : FlowAll P M rows edges
  pub caught : (x : Handler) → In x M.method.handlers → Relevant P i pc x → Caught P M rows st lt x

pub record WellTyping (P : Program) (M : Owned) (rows : Table) : Type 0 where
  pub rows_of : (pc : ℕ) → pc < length M.method.code → RowOf P M (rows pc)
  pub start : LeRow P (first_row M) (rows 0)
  pub each : (pc : ℕ) (i : Instr) (st : List Ty) (lt : List Cell) → slice_get M.method.code pc ≡ Some i → rows pc ≡ reached st lt → Typed P M rows i pc st lt

-- at each instruction the row of one table lies below that of the other
abbrev pub LeTable : Program → Owned → Table → Table → Type 0
LeTable P M rows other = (pc : ℕ) → pc < length M.method.code → LeRow P (rows pc) (other pc)

-- a well-typing that lies below every other
pub record Least (P : Program) (M : Owned) (rows : Table) : Type 0 where
  pub typing : WellTyping P M rows
  pub least : (other : Table) → WellTyping P M other → LeTable P M rows other

abbrev pub Untypable : Program → Owned → Type 0
Untypable P M = (rows : Table) → WellTyping P M rows → ⊥

-- a well-typing of each method
abbrev pub WellTypings : Program → (ℕ → Table) → Type 0
WellTypings P Φ = (k : ℕ) (M : Owned) → method_at P k ≡ Some M → WellTyping P M (Φ k)

-- the least one of each method
abbrev pub LeastTypings : Program → (ℕ → Table) → Type 0
LeastTypings P Φ = (k : ℕ) (M : Owned) → method_at P k ≡ Some M → Least P M (Φ k)
