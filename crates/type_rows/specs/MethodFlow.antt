-- A method as a flow of rows: its instructions are the nodes, and successors and handlers the edges. Assumes nothing.
use Rattle.std.specs.Prelude.{ℕ, zero, suc, ◌+◌, Bool, true, false, cond, ◌&&◌, List, [], ◌∷◌, length, nat_lt}
use Rattle.std.specs.List.{slice_get}
use Rattle.jinja.specs.declared.ty.Ty.{Ty}
use Rattle.jinja.specs.declared.ty.Ty.TheVariants.{Class}
use Rattle.jinja.specs.declared.instr.Instr.{Instr}
use Rattle.jinja.specs.declared.program.Handler.{Handler}
use Rattle.jinja.specs.Program.{Program}
use Rattle.jinja.specs.Classes.{maybe}
use Rattle.jinja.specs.Lookups.{Owned}
use Rattle.jinja.specs.Rows.{Cell, Row, unreached, reached, first_row}
use Rattle.jinja.specs.Handlers.{lowest}
use Rattle.jinja.specs.Rule.{Edge, edge}
use Rattle.jinja.specs.Transfer.{is_relevant, transfer, sends}
use Rattle.walk.specs.Flow.{Sent, nothing, sent, Flow}
use Rattle.type_rows.specs.Merging.{Merge, merged, clash}

-- every edge ends before n
abbrev pub all_inside : ℕ → List Edge → Bool
all_inside n [] = true
all_inside n (edge p st lt ∷ es) = nat_lt p n && all_inside n es

abbrev pub to_node : Edge → Sent Merge
to_node (edge p st lt) = sent p (merged (reached st lt))

-- what goes to the target of a handler
abbrev pub to_handler : Program → Handler → Instr → ℕ → List Ty → List Cell → Sent Merge
to_handler P x i pc st lt = cond (is_relevant P i pc x) (sent x.target (merged (reached (Class x.class ∷ lowest x.depth st) lt))) nothing

module _ (P : Program) (M : Owned) where
  -- the needs of the instruction fail, or an edge leaves the method
  abbrev pub refuses_row : Instr → ℕ → Row → Bool
  refuses_row i pc r = maybe (sends P M i pc r) true (λ es. cond (all_inside (length M.method.code) es) false true)

  abbrev pub refuses : ℕ → Merge → Bool
  refuses pc clash = true
  refuses pc (merged r) = maybe (slice_get M.method.code pc) true (λ i. refuses_row i pc r)

  -- an instruction has at most two successors; behind them come the handlers
  abbrev pub edge_of : Instr → ℕ → ℕ → List Ty → List Cell → Sent Merge
  edge_of i pc zero st lt = maybe (transfer P M i pc st lt) nothing (λ es. maybe (slice_get es 0) nothing to_node)
  edge_of i pc (suc zero) st lt = maybe (transfer P M i pc st lt) nothing (λ es. maybe (slice_get es 1) nothing to_node)
  edge_of i pc (suc (suc j)) st lt = maybe (slice_get M.method.handlers j) nothing (λ x. to_handler P x i pc st lt)

  abbrev pub carries : ℕ → ℕ → Merge → Sent Merge
  carries pc e clash = nothing
  carries pc e (merged unreached) = nothing
  carries pc e (merged (reached st lt)) = maybe (slice_get M.method.code pc) nothing (λ i. edge_of i pc e st lt)

  abbrev pub method_flow : Flow Merge
  method_flow = record {
    count = length M.method.code;
    start = merged (first_row M);
    refused = refuses;
    edges = λ _. 2 + length M.method.handlers;
    sends = carries;
  }
