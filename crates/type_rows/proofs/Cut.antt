-- A well-typing, cut down to the rows in use, is a solution of the method's flow. Assumes nothing.
use Rattle.std.proofs.Common.{◌≡◌, ℕ, zero, suc, ◌<◌, ◌≤◌, Bool, true, false, cond, leb, List, [], ◌∷◌, length, Some, None, Option, sym, refl, ◌∙◌, subst, arith}
use Rattle.std.specs.List.{slice_get, AllByRecursion}
use Rattle.std.proofs.lemmas.Bool.{le-leb, leb-true}
use Rattle.jinja.specs.declared.ty.Ty.{Ty}
use Rattle.jinja.specs.declared.instr.Instr.{Instr}
use Rattle.jinja.specs.declared.program.Handler.{Handler}
use Rattle.jinja.specs.Program.{Program}
use Rattle.jinja.specs.Classes.{maybe}
use Rattle.jinja.specs.Lookups.{Owned, method_at}
use Rattle.jinja.specs.WellFormed.{WellFormed}
use Rattle.jinja.specs.Rows.{Cell, Row, unreached, reached, Table, first_row, RowOf, no_row, row}
use Rattle.jinja.specs.Order.{LeRow, le_unreached, le_reached}
use Rattle.jinja.specs.Rule.{Edge, edge}
use Rattle.jinja.specs.WellTyping.{FlowAll, flow, WellTyping}
use Rattle.jinja.specs.Transfer.{is_relevant, transfer, send_handlers, sends}
use Rattle.jinja.proofs.Options.{some_inj, nth_inside}
use Rattle.jinja.proofs.Pairwise.{pairs_length}
use Rattle.jinja.proofs.Bridge.{passed, transfer_sound}
use Rattle.jinja.proofs.Sends.{sends_by_rules}
use Rattle.walk.specs.Limits.{most_nodes}
use Rattle.walk.specs.Lattice.{Le}
use Rattle.walk.specs.Flow.{nothing}
use Rattle.walk.specs.Solution.{Lands, nothing_lands, row_lands, Solution}
use Rattle.type_rows.specs.Merging.{Merge, merged, merge, row_height, InUse, row_in_use}
use Rattle.type_rows.specs.MergeOrder.{le_merged, le_to_join, above_in_use}
use Rattle.type_rows.specs.MethodFlow.{to_node, to_handler, refuses_row, refuses, edge_of, carries}
use Rattle.type_rows.specs.Taking.{Inside, inside_tested, all_parts, Suits, handler_edge, handlers_suit}
use Rattle.type_rows.specs.SentRows.{CarriesRow, rule_sends_rows, first_in_use}
use Rattle.type_rows.specs.FlowLaws.{sent_at, refuses_at, carries_at, taken_handler_row}
use Rattle.type_rows.specs.TypeRows.{type_rows}
use Rattle.type_rows.specs.Typings.{row_of}
use Rattle.type_rows.proofs.Solved.{FlowsEdge}

-- a row that is higher than the method allows counts as unreached: no row in use lies below it
abbrev pub cut : Owned → Row → Merge
cut M r = merged (cond (leb (row_height r) M.method.height) r unreached)

pub cut_low : (M : Owned) (r : Row) → row_height r ≤ M.method.height → cut M r ≡ merged r
cut_low M r l = rw (le-leb (row_height r) M.method.height l)

-- what lies above a row in use is not cut
pub above_stays : {P : Program} {M : Owned} {st : List Ty} {lt : List Cell} {r : Row} → InUse P M (merged (reached st lt)) → LeRow P (reached st lt) r → cut M r ≡ merged r
above_stays {M = M} (row_in_use x h) (le_reached {s' = s'} {l' = l'} a b) = let p = pairs_length a in cut_low M (reached s' l') (omega arith)

-- a cut row lies below the row
pub cut_below : {P : Program} (M : Owned) (r : Row) → LeRow P r r → LeRow P (row_of (cut M r)) r
cut_below {P} M r l = go (leb (row_height r) M.method.height)
  where
    go : (b : Bool) → LeRow P (cond b r unreached) r
    go true = l
    go false = le_unreached

all_flows : (P : Program) (M : Owned) (rows : Table) (es : List Edge) → FlowAll P M rows es → AllByRecursion (FlowsEdge P M rows) es
all_flows P M rows [] a = tt
all_flows P M rows (edge p st lt ∷ es) (flow f fs) = (f, all_flows P M rows es fs)

flows_inside : (P : Program) (M : Owned) (rows : Table) (es : List Edge) → AllByRecursion (FlowsEdge P M rows) es → AllByRecursion (Inside (length M.method.code)) es
flows_inside P M rows [] a = tt
flows_inside P M rows (edge p st lt ∷ es) a = (a.0.inside, flows_inside P M rows es a.1)

-- the successors of a row in use get rows in use
carried : {P : Program} (w : WellFormed P) {M : Owned} (i : Instr) (pc : ℕ) {st : List Ty} {lt : List Cell} {es : List Edge} → InUse P M (merged (reached st lt)) → transfer P M i pc st lt ≡ Some es → AllByRecursion (CarriesRow P M) es
carried w i pc (row_in_use (row s l n) h) a = rule_sends_rows w s l n h (transfer_sound w i pc _ _ a)

module _ {P : Program} (w : WellFormed P) (M : Owned) (k : ℕ) (m : method_at P k ≡ Some M) (few : length M.method.code ≤ most_nodes) (rows : Table) (t : WellTyping P M rows) where
  cut_in_use : (pc : ℕ) → pc < length M.method.code → InUse P M (cut M (rows pc))
  cut_in_use pc l = go (leb (row_height (rows pc)) M.method.height) refl
    where
      go : (b : Bool) → leb (row_height (rows pc)) M.method.height ≡ b → InUse P M (merged (cond b (rows pc) unreached))
      go true e = row_in_use (t.rows_of pc l) (leb-true _ _ e)
      go false e = row_in_use no_row (omega arith)

  -- what flows to a row lands on the cut one
  edge_lands : (x : Edge) → CarriesRow P M x → FlowsEdge P M rows x → Lands (type_rows P M k w m few) (λ pc. cut M (rows pc)) (to_node x)
  edge_lands (edge p st lt) u f =
      let e = above_stays u f.below in
      row_lands (subst (Le (merge P) (merged (reached st lt))) (sym e) (le_to_join w u (above_in_use u f.below) (le_merged f.below)))

  module _ (pc : ℕ) (i : Instr) (st : List Ty) (lt : List Cell) (at : slice_get M.method.code pc ≡ Some i) (is : rows pc ≡ reached st lt) where
    sent_edges : (es : List Edge) × (sends P M i pc (reached st lt) ≡ Some es) × FlowAll P M rows es
    sent_edges = (sends_by_rules P w).sent (t.each pc i st lt at is)

    row_taken : refuses_row P M i pc (reached st lt) ≡ false
    row_taken =
        let s = sent_edges in
        let n = length M.method.code in
        rw (s.1, inside_tested n s.0 (flows_inside P M rows s.0 (all_flows P M rows s.0 s.2)))

    module _ (u : InUse P M (merged (reached st lt))) where
      typed_lands : (e : ℕ) → Lands (type_rows P M k w m few) (λ pc. cut M (rows pc)) (edge_of P M i pc e st lt)
      typed_lands e =
          let s = sent_edges in
          let a = passed (transfer P M i pc st lt) _ s.1 in
          let h = passed (send_handlers P M M.method.handlers i pc st lt) _ a.2 in
          let q = all_parts (FlowsEdge P M rows) a.0 h.0 (subst (AllByRecursion (FlowsEdge P M rows)) (sym (some_inj h.2)) (all_flows P M rows s.0 s.2)) in
          go e a.0 a.1 q.0 (handlers_suit i pc (FlowsEdge P M rows) M.method.handlers h.0 h.1 q.1)
        where
          T : ℕ → Merge
          T = λ pc. cut M (rows pc)

          at_list : (e : ℕ) (es : List Edge) → AllByRecursion (CarriesRow P M) es → AllByRecursion (FlowsEdge P M rows) es → Lands (type_rows P M k w m few) T (sent_at es e)
          at_list e [] c f = nothing_lands
          at_list zero (x ∷ es) c f = edge_lands x c.0 f.0
          at_list (suc e) (x ∷ es) c f = at_list e es c.1 f.1

          at_handler : (j : ℕ) (o : Option Handler) → slice_get M.method.handlers j ≡ o → ((j : ℕ) (x : Handler) → slice_get M.method.handlers j ≡ Some x → is_relevant P i pc x ≡ true → Suits P M st x × FlowsEdge P M rows (handler_edge st lt x)) → Lands (type_rows P M k w m few) T (maybe o nothing (λ x. to_handler P x i pc st lt))
          at_handler j None q c = nothing_lands
          at_handler j (Some x) q c = relevant (is_relevant P i pc x) refl
            where
              relevant : (b : Bool) → is_relevant P i pc x ≡ b → Lands (type_rows P M k w m few) T (cond b (to_node (handler_edge st lt x)) nothing)
              relevant true r = let z = c j x q r in edge_lands (handler_edge st lt x) (taken_handler_row w x u z.0) z.1
              relevant false r = nothing_lands

          go : (e : ℕ) (es : List Edge) → transfer P M i pc st lt ≡ Some es → AllByRecursion (FlowsEdge P M rows) es → ((j : ℕ) (x : Handler) → slice_get M.method.handlers j ≡ Some x → is_relevant P i pc x ≡ true → Suits P M st x × FlowsEdge P M rows (handler_edge st lt x)) → Lands (type_rows P M k w m few) T (edge_of P M i pc e st lt)
          go zero es a f c = rw a (at_list 0 es (carried w i pc u a) f)
          go (suc zero) es a f c = rw a (at_list 1 es (carried w i pc u a) f)
          go (suc (suc j)) es a f c = at_handler j (slice_get M.method.handlers j) refl c

  node_taken : (pc : ℕ) → pc < length M.method.code → refuses P M pc (cut M (rows pc)) ≡ false
  node_taken pc l = go (rows pc) refl (leb (row_height (rows pc)) M.method.height)
    where
      i : Instr
      i = (nth_inside M.method.code pc l).0

      at : slice_get M.method.code pc ≡ Some i
      at = (nth_inside M.method.code pc l).1

      go : (r : Row) → rows pc ≡ r → (b : Bool) → refuses P M pc (merged (cond b r unreached)) ≡ false
      go r e false = refuses_at w M pc at unreached
      go unreached e true = refuses_at w M pc at unreached
      go (reached st lt) e true = refuses_at w M pc at (reached st lt) ∙ row_taken pc i st lt at e

  node_lands : (pc e : ℕ) → pc < length M.method.code → Lands (type_rows P M k w m few) (λ pc. cut M (rows pc)) (carries P M pc e (cut M (rows pc)))
  node_lands pc e l = go (rows pc) refl (leb (row_height (rows pc)) M.method.height) refl
    where
      i : Instr
      i = (nth_inside M.method.code pc l).0

      at : slice_get M.method.code pc ≡ Some i
      at = (nth_inside M.method.code pc l).1

      go : (r : Row) → rows pc ≡ r → (b : Bool) → leb (row_height r) M.method.height ≡ b → Lands (type_rows P M k w m few) (λ pc. cut M (rows pc)) (carries P M pc e (merged (cond b r unreached)))
      go r q false f = nothing_lands
      go unreached q true f = nothing_lands
      go (reached st lt) q true f =
          let u = row_in_use (subst (RowOf P M) q (t.rows_of pc l)) (leb-true _ _ f) in
          rw (carries_at w M pc at e st lt) (typed_lands pc i st lt at q u e)

  pub typing_solves : Solution (type_rows P M k w m few) (λ pc. cut M (rows pc))
  typing_solves = record {
    goods = cut_in_use;
    start = λ l.
        let u = first_in_use w k m in
        subst (Le (merge P) (merged (first_row M))) (sym (above_stays u t.start)) (le_to_join w u (above_in_use u t.start) (le_merged t.start));
    taken = node_taken;
    lands = λ pc e l q. node_lands pc e l;
  }
