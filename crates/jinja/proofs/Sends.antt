-- What is sent from below a well-typing stays below it. Assumes nothing.
use Rattle.std.proofs.Common.{◌≡◌, ℕ, List, Some, refl}
use Rattle.std.specs.List.{slice_get}
use Rattle.jinja.specs.declared.ty.Ty.{Ty}
use Rattle.jinja.specs.declared.instr.Instr.{Instr}
use Rattle.jinja.specs.Program.{Program}
use Rattle.jinja.specs.Lookups.{Owned}
use Rattle.jinja.specs.WellFormed.{WellFormed}
use Rattle.jinja.specs.Rows.{Cell, Row, unreached, reached, Table}
use Rattle.jinja.specs.Order.{LeAll, LeCells, LeRow, le_reached}
use Rattle.jinja.specs.Rule.{Edge}
use Rattle.jinja.specs.WellTyping.{FlowAll, no_more, flow, Typed, WellTyping}
use Rattle.jinja.specs.Transfer.{sends}
use Rattle.jinja.specs.TypingLaws.{LeEdges, le_stop, le_edge, SendsByRulesHolds}
use Rattle.jinja.proofs.Order.{row_trans}
use Rattle.jinja.proofs.Monotone.{rule_mono, caught_mono}
use Rattle.jinja.proofs.Bridge.{sent, typed}

flows_below : {P : Program} {M : Owned} {rows : Table} {es fs : List Edge} → LeEdges P es fs → FlowAll P M rows fs → FlowAll P M rows es
flows_below le_stop f = no_more
flows_below (le_edge a b r) (flow f fs) = flow (record { inside = f.inside; below = row_trans (le_reached a b) f.below }) (flows_below r fs)

module _ {P : Program} (w : WellFormed P) where
  typed_below : {M : Owned} {rows : Table} {i : Instr} {pc : ℕ} {st st' : List Ty} {lt lt' : List Cell} → LeAll P st st' → LeCells P lt lt' → Typed P M rows i pc st' lt' → Typed P M rows i pc st lt
  typed_below a b t = let m = rule_mono w a b t.rule in record { edges = m.edges; rule = m.rule; flows = flows_below m.lower t.flows; caught = λ x y r. caught_mono a b (t.caught x y r) }

  pub sent_below : {M : Owned} {rows : Table} {i : Instr} {pc : ℕ} {st : List Ty} {lt : List Cell} → WellTyping P M rows → slice_get M.method.code pc ≡ Some i → LeRow P (reached st lt) (rows pc) → (es : List Edge) × (sends P M i pc (reached st lt) ≡ Some es) × FlowAll P M rows es
  sent_below {M} {rows} {i} {pc} {st} {lt} t is l = go (rows pc) refl l
    where
      go : (r : Row) → rows pc ≡ r → LeRow P (reached st lt) r → (es : List Edge) × (sends P M i pc (reached st lt) ≡ Some es) × FlowAll P M rows es
      go unreached e x = elim x [ ]
      go (reached s' l') e (le_reached a b) = sent w (typed_below a b (t.each pc i s' l' is e))

pub sends_by_rules : SendsByRulesHolds
sends_by_rules P w = record { sent = sent w; typed = typed w; sent_below = sent_below w }
