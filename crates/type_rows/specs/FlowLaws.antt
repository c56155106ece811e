-- The flow of a method is monotone: an instruction takes what lies below a row that it takes, and sends less. Assumes nothing.
use Rattle.std.specs.Prelude.{◌≡◌, ℕ, zero, suc, ◌≤◌, Bool, true, false, cond, List, [], ◌∷◌, length, Some, None, Option, refl}
use Rattle.std.proofs.Common.{sym, ◌∙◌}
use Rattle.std.specs.List.{slice_get, AllByRecursion}
use Rattle.jinja.specs.declared.ty.Ty.{Ty}
use Rattle.jinja.specs.declared.instr.Instr.{Instr}
use Rattle.jinja.specs.declared.program.Handler.{Handler}
use Rattle.jinja.specs.Program.{Program}
use Rattle.jinja.specs.Classes.{maybe, here}
use Rattle.jinja.specs.Lookups.{Owned, method_at}
use Rattle.jinja.specs.WellFormed.{WellFormed}
use Rattle.jinja.specs.Rows.{Cell, Row, unreached, reached, row}
use Rattle.jinja.specs.Order.{cons, subclass, LeAll, LeCells, le_reached}
use Rattle.jinja.specs.Rule.{Edge, edge}
use Rattle.jinja.specs.Transfer.{is_relevant}
use Rattle.jinja.specs.TypingLaws.{LeEdges, le_stop, le_edge}
use Rattle.jinja.proofs.Options.{nth_inside}
use Rattle.jinja.proofs.Pairwise.{pairs_lowest}
use Rattle.jinja.proofs.Bridge.{transfer_complete}
use Rattle.walk.specs.Limits.{most_nodes}
use Rattle.walk.specs.Flow.{Sent, nothing, Below, nothing_below, row_below, Lawful, nothing_lawful, row_lawful, Monotone}
use Rattle.type_rows.specs.Merging.{Merge, merged, clash, merge, InUse, row_in_use}
use Rattle.type_rows.specs.MergeOrder.{LeMerge, le_merged, le_to_join, le_from_join}
use Rattle.type_rows.specs.MethodFlow.{to_node, to_handler, refuses_row, refuses, edge_of, carries, method_flow}
use Rattle.type_rows.specs.Taking.{Inside, Suits, handler_edge, Taken, taken_found, taken_tested, taken_below}
use Rattle.type_rows.specs.SentRows.{CarriesRow, rule_sends_rows, handler_sends_row, first_in_use}
use Rattle.std.proofs.lemmas.Bool.{false≢true}

-- what the edge e of a list sends
abbrev pub sent_at : List Edge → ℕ → Sent Merge
sent_at es e = maybe (slice_get es e) nothing to_node

module _ {P : Program} {M : Owned} where
  -- the edges of a list that are inside and carry rows are lawful, and lower ones send less
  lawful_at : (n : ℕ) (es : List Edge) (e : ℕ) → AllByRecursion (Inside n) es → AllByRecursion (CarriesRow P M) es → Lawful (InUse P M) n (sent_at es e)
  lawful_at n [] e a b = nothing_lawful
  lawful_at n (edge p st lt ∷ es) zero a b = row_lawful a.0 b.0
  lawful_at n (edge p st lt ∷ es) (suc e) a b = lawful_at n es e a.1 b.1

below_at : {P : Program} (w : WellFormed P) (M : Owned) {es fs : List Edge} (e : ℕ) → LeEdges P es fs → AllByRecursion (CarriesRow P M) es → AllByRecursion (CarriesRow P M) fs → Below (merge P) (sent_at es e) (sent_at fs e)
below_at w M e le_stop a b = nothing_below
below_at w M zero (le_edge s l k) a b = row_below (le_to_join w a.0 b.0 (le_merged (le_reached s l)))
below_at w M (suc e) (le_edge s l k) a b = below_at w M e k a.1 b.1

module _ {P : Program} (w : WellFormed P) {M : Owned} where
  pub taken_sends_rows : {i : Instr} {pc : ℕ} {st : List Ty} {lt : List Cell} → InUse P M (merged (reached st lt)) → (t : Taken P M i pc st lt) → AllByRecursion (CarriesRow P M) t.nexts
  taken_sends_rows (row_in_use (row s l n) h) t = rule_sends_rows w s l n h t.rule

  pub taken_handler_row : {st : List Ty} {lt : List Cell} (x : Handler) → InUse P M (merged (reached st lt)) → Suits P M st x → CarriesRow P M (handler_edge st lt x)
  taken_handler_row x (row_in_use (row s l n) h) k = handler_sends_row w x s l n k

  -- successors come first
  pub nexts_at : {i : Instr} {pc : ℕ} {st : List Ty} {lt : List Cell} (t : Taken P M i pc st lt) → (edge_of P M i pc 0 st lt ≡ sent_at t.nexts 0) × (edge_of P M i pc 1 st lt ≡ sent_at t.nexts 1)
  nexts_at t = (rw (transfer_complete w t.rule), rw (transfer_complete w t.rule))

  handler_lawful : {i : Instr} {pc : ℕ} {st : List Ty} {lt : List Cell} (j : ℕ) (o : Option Handler) → slice_get M.method.handlers j ≡ o → InUse P M (merged (reached st lt)) → Taken P M i pc st lt → Lawful (InUse P M) (length M.method.code) (maybe o nothing (λ x. to_handler P x i pc st lt))
  handler_lawful j None q u t = nothing_lawful
  handler_lawful {i} {pc} {st} {lt} j (Some x) q u t = go (is_relevant P i pc x) refl
    where
      go : (b : Bool) → is_relevant P i pc x ≡ b → Lawful (InUse P M) (length M.method.code) (cond b (to_node (handler_edge st lt x)) nothing)
      go true r = let k = t.caught j x q r in row_lawful k.1 (taken_handler_row x u k.0)
      go false r = nothing_lawful

  edge_lawful : {i : Instr} {pc : ℕ} {st : List Ty} {lt : List Cell} (e : ℕ) → InUse P M (merged (reached st lt)) → Taken P M i pc st lt → Lawful (InUse P M) (length M.method.code) (edge_of P M i pc e st lt)
  edge_lawful zero u t = rw (nexts_at t).0 (lawful_at _ t.nexts 0 t.inside (taken_sends_rows u t))
  edge_lawful (suc zero) u t = rw (nexts_at t).1 (lawful_at _ t.nexts 1 t.inside (taken_sends_rows u t))
  edge_lawful (suc (suc j)) u t = handler_lawful j (slice_get M.method.handlers j) refl u t

  module _ {i : Instr} {pc : ℕ} {st st' : List Ty} {lt lt' : List Cell} (a : LeAll P st st') (b : LeCells P lt lt') (u : InUse P M (merged (reached st lt))) (v : InUse P M (merged (reached st' lt'))) (t : Taken P M i pc st' lt') where
    handler_below : (j : ℕ) (o : Option Handler) → slice_get M.method.handlers j ≡ o → Below (merge P) (maybe o nothing (λ x. to_handler P x i pc st lt)) (maybe o nothing (λ x. to_handler P x i pc st' lt'))
    handler_below j None q = nothing_below
    handler_below j (Some x) q = go (is_relevant P i pc x) refl
      where
        go : (c : Bool) → is_relevant P i pc x ≡ c → Below (merge P) (cond c (to_node (handler_edge st lt x)) nothing) (cond c (to_node (handler_edge st' lt' x)) nothing)
        go true r =
            let k = t.caught j x q r in
            let l = (taken_below w a b t).0.caught j x q r in
            row_below (le_to_join w (taken_handler_row x u l.0) (taken_handler_row x v k.0) (le_merged (le_reached (cons (subclass (here k.0.exists)) (pairs_lowest x.depth a)) b)))
        go false r = nothing_below

    next_below : (e : ℕ) → Below (merge P) (sent_at (taken_below w a b t).0.nexts e) (sent_at t.nexts e)
    next_below e = let l = taken_below w a b t in below_at w M e l.1 (taken_sends_rows u l.0) (taken_sends_rows v t)

    edge_below : (e : ℕ) → Below (merge P) (edge_of P M i pc e st lt) (edge_of P M i pc e st' lt')
    edge_below zero = rw ((nexts_at (taken_below w a b t).0).0, (nexts_at t).0) (next_below 0)
    edge_below (suc zero) = rw ((nexts_at (taken_below w a b t).0).1, (nexts_at t).1) (next_below 1)
    edge_below (suc (suc j)) = handler_below j (slice_get M.method.handlers j) refl

-- the instruction at a node, and what the node does with a row
module _ {P : Program} (w : WellFormed P) (M : Owned) (pc : ℕ) {i : Instr} (at : slice_get M.method.code pc ≡ Some i) where
  pub refuses_at : (r : Row) → refuses P M pc (merged r) ≡ refuses_row P M i pc r
  refuses_at r = rw at

  pub carries_at : (e : ℕ) (st : List Ty) (lt : List Cell) → carries P M pc e (merged (reached st lt)) ≡ edge_of P M i pc e st lt
  carries_at e st lt = rw at

  pub taken_at : (st : List Ty) (lt : List Cell) → refuses P M pc (merged (reached st lt)) ≡ false → Taken P M i pc st lt
  taken_at st lt e = taken_found w i pc st lt (sym (refuses_at (reached st lt)) ∙ e)

  lower_taken : (x y : Merge) → LeMerge P x y → refuses P M pc y ≡ false → refuses P M pc x ≡ false
  lower_taken x clash l e = absurd (false≢true (sym e))
  lower_taken clash (merged s) l e = absurd (elim l [ ])
  lower_taken (merged unreached) (merged s) l e = refuses_at unreached
  lower_taken (merged (reached st lt)) (merged unreached) l e = absurd (no_lower l)
    where
      no_lower : LeMerge P (merged (reached st lt)) (merged unreached) → ⊥
      no_lower (le_merged k) = elim k [ ]
  lower_taken (merged (reached st lt)) (merged (reached st' lt')) (le_merged (le_reached a b)) e = refuses_at (reached st lt) ∙ taken_tested w (taken_below w a b (taken_at st' lt' e)).0

  node_lawful : (e : ℕ) (x : Merge) → InUse P M x → refuses P M pc x ≡ false → Lawful (InUse P M) (length M.method.code) (carries P M pc e x)
  node_lawful e clash u f = nothing_lawful
  node_lawful e (merged unreached) u f = nothing_lawful
  node_lawful e (merged (reached st lt)) u f = rw (carries_at e st lt) (edge_lawful w e u (taken_at st lt f))

  node_below : (e : ℕ) (x y : Merge) → InUse P M x → InUse P M y → LeMerge P x y → refuses P M pc y ≡ false → Below (merge P) (carries P M pc e x) (carries P M pc e y)
  node_below e clash y u v l f = nothing_below
  node_below e (merged unreached) y u v l f = nothing_below
  node_below e (merged (reached st lt)) clash u v l f = absurd (false≢true (sym f))
  node_below e (merged (reached st lt)) (merged unreached) u v (le_merged k) f = absurd (elim k [ ])
  node_below e (merged (reached st lt)) (merged (reached st' lt')) u v (le_merged (le_reached a b)) f =
      rw (carries_at e st lt, carries_at e st' lt') (edge_below w a b u v (taken_at st' lt' f) e)

-- of a method of the program with at most 256 instructions
pub method_monotone : {P : Program} (w : WellFormed P) {M : Owned} (k : ℕ) → method_at P k ≡ Some M → length M.method.code ≤ most_nodes → Monotone (InUse P M) (merged unreached) (merge P) (method_flow P M)
method_monotone w {M} k m few = record {
  few = few;
  good_start = first_in_use w k m;
  content = λ pc l. refuses_at w M pc (nth_inside M.method.code pc l).1 unreached;
  silent = λ pc e l k. refl;
  taken = λ pc x y l u v h f. lower_taken w M pc (nth_inside M.method.code pc l).1 x y (le_from_join w u v h) f;
  lawful = λ pc e x l k u f. node_lawful w M pc (nth_inside M.method.code pc l).1 e x u f;
  less = λ pc e x y l k u v h f. node_below w M pc (nth_inside M.method.code pc l).1 e x y u v (le_from_join w u v h) f;
}
