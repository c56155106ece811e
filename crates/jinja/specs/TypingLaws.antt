-- What holds of the order of rows, of the rules and of well-typings, in every program that keeps the rules. Assumes nothing.
use Rattle.std.specs.Prelude.{◌≡◌, ℕ, ◌<◌, List, [], ◌∷◌, length, Some}
use Rattle.std.specs.List.{slice_get}
use Rattle.jinja.specs.declared.ty.Ty.{Ty}
use Rattle.jinja.specs.declared.instr.Instr.{Instr}
use Rattle.jinja.specs.declared.program.Handler.{Handler}
use Rattle.jinja.specs.Program.{Program}
use Rattle.jinja.specs.Classes.{IsClass, AtOrBelow}
use Rattle.jinja.specs.Lookups.{Owned, method_at}
use Rattle.jinja.specs.WellFormed.{WellFormed}
use Rattle.jinja.specs.Rows.{Cell, Row, reached, Table, RowOf}
use Rattle.jinja.specs.Order.{LeAll, LeCells, LeRow}
use Rattle.jinja.specs.Rule.{Edge, edge, Rule}
use Rattle.jinja.specs.WellTyping.{FlowAll, Caught, Typed, WellTyping, Least}
use Rattle.jinja.specs.Join.{nearest, join_row}
use Rattle.jinja.specs.Transfer.{sends}

-- rows are partially ordered
pub record RowOrder (P : Program) : Type 0 where
  pub reflexive : {M : Owned} {r : Row} → RowOf P M r → LeRow P r r
  pub transitive : {r s t : Row} → LeRow P r s → LeRow P s t → LeRow P r t
  pub antisymmetric : {r s : Row} → LeRow P r s → LeRow P s r → r ≡ s

-- e is a superclass of c and d, and lies below every other
pub record NearestCommon (P : Program) (c d e : ℕ) : Type 0 where
  pub left : AtOrBelow P c e
  pub right : AtOrBelow P d e
  pub nearest : {x : ℕ} → AtOrBelow P c x → AtOrBelow P d x → AtOrBelow P e x

-- t is the least upper bound of r and s
pub record Lub (P : Program) (r s t : Row) : Type 0 where
  pub left : LeRow P r t
  pub right : LeRow P s t
  pub least : {x : Row} → LeRow P r x → LeRow P s x → LeRow P t x

-- the join is the least upper bound, and is there wherever there is an upper bound
pub record JoinLaws (P : Program) : Type 0 where
  pub classes : (c d : ℕ) → IsClass P c → IsClass P d → NearestCommon P c d (nearest P c d)
  pub joined : {M : Owned} {t : Row} (r s : Row) → RowOf P M r → RowOf P M s → join_row P r s ≡ Some t → Lub P r s t
  pub bounded : {r s x : Row} → LeRow P r x → LeRow P s x → (t : Row) × (join_row P r s ≡ Some t)

-- fewer successors, and each gets a lower row
pub data LeEdges (P : Program) : List Edge → List Edge → Type 0 where
  le_stop : {es : List Edge} → LeEdges P [] es
  le_edge : {p : ℕ} {s s' : List Ty} {l l' : List Cell} {es es' : List Edge} → LeAll P s s' → LeCells P l l' → LeEdges P es es' → LeEdges P (edge p s l ∷ es) (edge p s' l' ∷ es')

pub record Lower (P : Program) (M : Owned) (i : Instr) (pc : ℕ) (st : List Ty) (lt : List Cell) (upper : List Edge) : Type 0 where
  pub edges : List Edge
  pub rule : Rule P M i pc st lt edges
  pub lower : LeEdges P edges upper

-- where the needs hold of a row they hold of the rows below it, which send less
pub record Monotone (P : Program) : Type 0 where
  pub rules : {M : Owned} {i : Instr} {pc : ℕ} {st st' : List Ty} {lt lt' : List Cell} {es : List Edge} → LeAll P st st' → LeCells P lt lt' → Rule P M i pc st' lt' es → Lower P M i pc st lt es
  pub handlers : {M : Owned} {rows : Table} {st st' : List Ty} {lt lt' : List Cell} {x : Handler} → LeAll P st st' → LeCells P lt lt' → Caught P M rows st' lt' x → Caught P M rows st lt x

-- the function that runs says what the rules say
pub record SendsByRules (P : Program) : Type 0 where
  pub sent : {M : Owned} {rows : Table} {i : Instr} {pc : ℕ} {st : List Ty} {lt : List Cell} → Typed P M rows i pc st lt → (es : List Edge) × (sends P M i pc (reached st lt) ≡ Some es) × FlowAll P M rows es
  pub typed : {M : Owned} {rows : Table} {es : List Edge} (i : Instr) (pc : ℕ) (st : List Ty) (lt : List Cell) → sends P M i pc (reached st lt) ≡ Some es → FlowAll P M rows es → Typed P M rows i pc st lt
  -- what is sent from below a well-typing stays below it
  pub sent_below : {M : Owned} {rows : Table} {i : Instr} {pc : ℕ} {st : List Ty} {lt : List Cell} → WellTyping P M rows → slice_get M.method.code pc ≡ Some i → LeRow P (reached st lt) (rows pc) → (es : List Edge) × (sends P M i pc (reached st lt) ≡ Some es) × FlowAll P M rows es

abbrev pub RowOrderHolds : Type 0
RowOrderHolds = (P : Program) → WellFormed P → RowOrder P

abbrev pub JoinLawsHold : Type 0
JoinLawsHold = (P : Program) → WellFormed P → JoinLaws P

abbrev pub RulesMonotone : Type 0
RulesMonotone = (P : Program) → WellFormed P → Monotone P

abbrev pub SendsByRulesHolds : Type 0
SendsByRulesHolds = (P : Program) → WellFormed P → SendsByRules P

-- two least well-typings agree at each instruction
abbrev pub LeastUnique : Type 0
LeastUnique = (P : Program) → WellFormed P → (M : Owned) (rows other : Table) → Least P M rows → Least P M other → (pc : ℕ) → pc < length M.method.code → rows pc ≡ other pc

-- a method that has a well-typing has a least one
abbrev pub TypableHasLeast : Type 0
TypableHasLeast = (P : Program) → WellFormed P → (k : ℕ) (M : Owned) → method_at P k ≡ Some M → (rows : Table) → WellTyping P M rows → (least : Table) × Least P M least
