-- A solution of a method's flow is a well-typing of the method. Assumes nothing.
use Rattle.std.proofs.Common.{◌≡◌, ℕ, suc, ◌+◌, ◌<◌, ◌≤◌, Bool, true, false, List, [], ◌∷◌, ◌++◌, length, Some, sym, refl, ap, ◌∙◌, subst, arith}
use Rattle.std.specs.List.{slice_get, AllByRecursion}
use Rattle.std.proofs.ByRecursion.{All-append}
use Rattle.jinja.specs.declared.ty.Ty.{Ty}
use Rattle.jinja.specs.declared.instr.Instr.{Instr}
use Rattle.jinja.specs.declared.program.Handler.{Handler}
use Rattle.jinja.specs.Program.{Program}
use Rattle.jinja.specs.Lookups.{Owned, method_at}
use Rattle.jinja.specs.WellFormed.{WellFormed}
use Rattle.jinja.specs.Rows.{Cell, Row, unreached, reached, Table, RowOf, no_row}
use Rattle.jinja.specs.Order.{LeRow}
use Rattle.jinja.specs.Rule.{Edge, edge, Rule, load, store, push, pop, new, getfield, putfield, checkcast, invoke, invoke_null, return, iadd, cmpeq, cmpeq_references, iffalse, goto, throw}
use Rattle.jinja.specs.WellTyping.{Flows, FlowAll, no_more, flow, Typed, WellTyping}
use Rattle.jinja.specs.Transfer.{is_relevant}
use Rattle.jinja.proofs.Options.{all_nth}
use Rattle.jinja.proofs.Bridge.{transfer_complete}
use Rattle.jinja.proofs.Sends.{sends_by_rules}
use Rattle.walk.specs.Limits.{most_nodes}
use Rattle.walk.specs.Lattice.{Le}
use Rattle.walk.specs.Flow.{sent}
use Rattle.walk.specs.Solution.{Lands, row_lands, Solution}
use Rattle.type_rows.specs.Merging.{Merge, merged, clash, merge, InUse, row_in_use, clash_in_use}
use Rattle.type_rows.specs.MergeOrder.{LeMerge, le_from_join, row_of_merged}
use Rattle.type_rows.specs.MethodFlow.{refuses, edge_of, carries}
use Rattle.type_rows.specs.Taking.{Inside, handler_edge, handlers_send, Taken}
use Rattle.type_rows.specs.SentRows.{CarriesRow, first_in_use}
use Rattle.type_rows.specs.FlowLaws.{sent_at, nexts_at, carries_at, taken_at, taken_sends_rows, taken_handler_row}
use Rattle.type_rows.specs.TypeRows.{type_rows}
use Rattle.type_rows.specs.Typings.{row_of, rows_of}
use Rattle.std.proofs.lemmas.Bool.{false≢true}
use Rattle.std.proofs.lemmas.Option.{slice_get_within}

-- an edge whose successor takes what it gets
abbrev pub FlowsEdge : Program → Owned → Table → Edge → Type 0
FlowsEdge P M rows (edge p st lt) = Flows P M rows p st lt

pub flow_all : (P : Program) (M : Owned) (rows : Table) (es : List Edge) → AllByRecursion (FlowsEdge P M rows) es → FlowAll P M rows es
flow_all P M rows [] a = no_more
flow_all P M rows (edge p st lt ∷ es) a = flow a.0 (flow_all P M rows es a.1)

-- no instruction has more than two successors
few_nexts : {P : Program} {M : Owned} {i : Instr} {pc : ℕ} {st : List Ty} {lt : List Cell} {es : List Edge} → Rule P M i pc st lt es → length es ≤ 2
few_nexts (load e room) = omega arith
few_nexts (store i) = omega arith
few_nexts (push room) = omega arith
few_nexts pop = omega arith
few_nexts (new i room) = omega arith
few_nexts (getfield e t room) = omega arith
few_nexts (putfield e t u) = omega arith
few_nexts (checkcast r i room) = omega arith
few_nexts (invoke e q m ts room) = omega arith
few_nexts (invoke_null e) = omega arith
few_nexts (return t) = omega arith
few_nexts (iadd room) = omega arith
few_nexts (cmpeq room) = omega arith
few_nexts (cmpeq_references r t room) = omega arith
few_nexts (iffalse e) = omega arith
few_nexts (goto e) = omega arith
few_nexts (throw r) = omega arith

-- what holds of the first two holds of all of at most two
first_two : {A : Type 0} (Q : A → Type 0) (xs : List A) → length xs ≤ 2 → ((a : A) → slice_get xs 0 ≡ Some a → Q a) → ((a : A) → slice_get xs 1 ≡ Some a → Q a) → AllByRecursion Q xs
first_two Q [] l f g = tt
first_two Q (x ∷ []) l f g = (f x refl, tt)
first_two Q (x ∷ y ∷ []) l f g = (f x refl, (g y refl, tt))
first_two Q (x ∷ y ∷ z ∷ xs) l f g = absurd (omega arith)

reached_row : (x : Merge) {st : List Ty} {lt : List Cell} → row_of x ≡ reached st lt → x ≡ merged (reached st lt)
reached_row (merged r) e = ap merged e
reached_row clash e = absurd (apart e)
  where
    is_reached : Row → Bool
    is_reached unreached = false
    is_reached (reached s l) = true

    apart : {s : List Ty} {l : List Cell} → unreached ≡ reached s l → ⊥
    apart e = false≢true (ap is_reached e)

in_use_row : {P : Program} {M : Owned} {x : Merge} → InUse P M x → RowOf P M (row_of x)
in_use_row (row_in_use r h) = r
in_use_row clash_in_use = no_row

-- what lies below a row that is not refused
below_row : (P : Program) (M : Owned) (pc : ℕ) (x : Merge) {r : Row} → refuses P M pc x ≡ false → LeMerge P (merged r) x → LeRow P r (row_of x)
below_row P M pc clash f l = absurd (false≢true (sym f))
below_row P M pc (merged s) f l = row_of_merged l

module _ {P : Program} (w : WellFormed P) (M : Owned) (k : ℕ) (m : method_at P k ≡ Some M) (few : length M.method.code ≤ most_nodes) {T : ℕ → Merge} (s : Solution (type_rows P M k w m few) T) where
  landed : {p : ℕ} {x : Merge} → Lands (type_rows P M k w m few) T (sent p x) → Le (merge P) x (T p)
  landed (row_lands l) = l

  -- what a node sends, its successor takes
  flows_to : {p : ℕ} {st : List Ty} {lt : List Cell} → p < length M.method.code → InUse P M (merged (reached st lt)) → Lands (type_rows P M k w m few) T (sent p (merged (reached st lt))) → Flows P M (rows_of T) p st lt
  flows_to {p} l u h = record { inside = l; below = below_row P M p (T p) (s.taken p l) (le_from_join w u (s.goods p l) (landed h)) }

  module _ (pc : ℕ) (i : Instr) (st : List Ty) (lt : List Cell) (at : slice_get M.method.code pc ≡ Some i) (is : T pc ≡ merged (reached st lt)) where
    here : pc < length M.method.code
    here = slice_get_within M.method.code pc _ at

    used : InUse P M (merged (reached st lt))
    used = subst (InUse P M) is (s.goods pc here)

    takes : Taken P M i pc st lt
    takes = taken_at w M pc at st lt (ap (refuses P M pc) (sym is) ∙ s.taken pc here)

    lands : (e : ℕ) → e < 2 + length M.method.handlers → Lands (type_rows P M k w m few) T (edge_of P M i pc e st lt)
    lands e l = subst (Lands (type_rows P M k w m few) T) (ap (carries P M pc e) is ∙ carries_at w M pc at e st lt) (s.lands pc e here l)

    next_flows : (e : ℕ) (x : Edge) → slice_get takes.nexts e ≡ Some x → Lands (type_rows P M k w m few) T (sent_at takes.nexts e) → FlowsEdge P M (rows_of T) x
    next_flows e (edge p st' lt') q h =
        flows_to (all_nth (Inside (length M.method.code)) takes.nexts e takes.inside q) (all_nth (CarriesRow P M) takes.nexts e (taken_sends_rows w used takes) q) (rw q at h)

    handler_flows : (j : ℕ) (x : Handler) → slice_get M.method.handlers j ≡ Some x → is_relevant P i pc x ≡ true → FlowsEdge P M (rows_of T) (handler_edge st lt x)
    handler_flows j x q r =
        let c = takes.caught j x q r in
        let b = slice_get_within M.method.handlers j _ q in
        flows_to c.1 (taken_handler_row w x used c.0) (rw (q, r) at (lands (suc (suc j)) (omega arith)))

    solved_typed : Typed P M (rows_of T) i pc st lt
    solved_typed =
        let Q = FlowsEdge P M (rows_of T) in
        let ns = takes.nexts in
        let hs = handlers_send i pc Q M.method.handlers (λ j x q r. ((takes.caught j x q r).0, handler_flows j x q r)) in
        let all = first_two Q ns (few_nexts takes.rule)
        (λ x q. next_flows 0 x q (subst (Lands (type_rows P M k w m few) T) (nexts_at w takes).0 (lands 0 (omega arith))))
        (λ x q. next_flows 1 x q (subst (Lands (type_rows P M k w m few) T) (nexts_at w takes).1 (lands 1 (omega arith)))) in
        (sends_by_rules P w).typed i pc st lt (rw (transfer_complete w takes.rule, hs.1)) (flow_all P M (rows_of T) (ns ++ hs.0) (All-append Q ns hs.0 all hs.2))

  pub solved_typing : WellTyping P M (rows_of T)
  solved_typing = record {
    rows_of = λ pc l. in_use_row (s.goods pc l);
    start = let l = w.some_code k m in below_row P M 0 (T 0) (s.taken 0 l) (le_from_join w (first_in_use w k m) (s.goods 0 l) (s.start l));
    each = λ pc i st lt at e. solved_typed pc i st lt at (reached_row (T pc) e);
  }
