-- A method that has a well-typing has a least one: from the first row, rows rise until every successor takes what it gets. Assumes nothing.
use Rattle.std.proofs.Common.{◌≡◌, ℕ, zero, suc, ◌<◌, ◌≤◌, Bool, true, false, cond, eqb, ◌⊎◌, List, [], ◌∷◌, length, Some, None, Option, sym, refl, ◌∙◌, subst, inl, inr, ⊎_elim, arith}
use Rattle.std.specs.List.{slice_get, AllByRecursion}
use Rattle.std.proofs.lemmas.Bool.{cases_eq, eq-eqb, eqb-true}
use Rattle.jinja.specs.declared.ty.Ty.{Ty}
use Rattle.jinja.specs.declared.instr.Instr.{Instr}
use Rattle.jinja.specs.Program.{Program}
use Rattle.jinja.specs.Lookups.{Owned, method_at}
use Rattle.jinja.specs.WellFormed.{WellFormed}
use Rattle.jinja.specs.Rows.{Cell, Row, unreached, reached, Table, first_row}
use Rattle.jinja.specs.Order.{LeRow, le_unreached}
use Rattle.jinja.specs.Rule.{Edge, edge}
use Rattle.jinja.specs.WellTyping.{FlowAll, no_more, flow, WellTyping, LeTable, Least, WellTypings, LeastTypings}
use Rattle.jinja.specs.Transfer.{sends}
use Rattle.jinja.specs.TypingLaws.{Lub, TypableHasLeast}
use Rattle.jinja.specs.Rising.{Allowed, unreached_allowed, row_left, table_left}
use Rattle.jinja.proofs.Options.{conflict, some_inj, nth_inside}
use Rattle.jinja.proofs.Order.{row_refl, row_trans}
use Rattle.jinja.proofs.Bridge.{flows_first, flows_rest, typed}
use Rattle.jinja.proofs.Join.{join_laws}
use Rattle.jinja.proofs.Sends.{sent_below}
use Rattle.jinja.proofs.Rising.{above_allowed, allowed_row, row_falls, sum_below_falls}
use Rattle.jinja.proofs.SentRows.{CarriesAllowed, sent_allowed, first_allowed}
use Rattle.std.proofs.lemmas.Option.{slice_get_within}

-- the table with the row r at p
abbrev with_row : ℕ → Row → Table → Table
with_row p r rows = λ pc. cond (eqb pc p) r (rows pc)

-- what holds of the new row and of the old ones holds of each
with_row_each : (Q : ℕ → Row → Type 0) (p : ℕ) (r : Row) (rows : Table) → Q p r → ((pc : ℕ) → Q pc (rows pc)) → (pc : ℕ) → Q pc (with_row p r rows pc)
with_row_each Q p r rows new old pc = go (eqb pc p) refl
  where
    go : (b : Bool) → eqb pc p ≡ b → Q pc (cond b r (rows pc))
    go true e = subst (λ (j : ℕ). Q j r) (sym (eqb-true pc p e)) new
    go false e = old pc

with_row_here : (p : ℕ) (r : Row) (rows : Table) → with_row p r rows p ≡ r
with_row_here p r rows = rw (eq-eqb p p refl)

-- each place below n has a fact, or one of them has news
all_or_news : {Q : ℕ → Type 0} {R : Type 0} (n : ℕ) → ((j : ℕ) → j < n → Q j ⊎ R) → ((j : ℕ) → j < n → Q j) ⊎ R
all_or_news zero f = inl (λ j l. absurd (omega arith))
all_or_news {Q} {R} (suc n) f =
    ⊎_elim
    (λ (q : (j : ℕ) → j < n → Q j). ⊎_elim
    (λ (here : Q n). inl (λ j l. ⊎_elim (λ (e : j ≡ n). subst Q (sym e) here) (λ (ne : j ≡ n → ⊥). q j (omega arith)) (cases_eq j n)))
    (λ (r : R). inr r)
    (f n (omega arith)))
    (λ (r : R). inr r)
    (all_or_news {Q = Q} n (λ j l. f j (omega arith)))

-- what the rows keep while they rise: they lie between the first row and every well-typing
record Held (P : Program) (M : Owned) (T : Table) : Type 0 where
  allowed : (pc : ℕ) → pc < length M.method.code → Allowed P M (T pc)
  start : LeRow P (first_row M) (T 0)
  under : (other : Table) → WellTyping P M other → LeTable P M T other

-- a table that keeps this and can rise less often
record Risen (P : Program) (M : Owned) (T : Table) : Type 0 where
  rows : Table
  held : Held P M rows
  less : table_left P M rows < table_left P M T

-- the successors of the instruction take what they get
abbrev Settled : Program → Owned → Table → ℕ → Type 0
Settled P M T pc = (i : Instr) (st : List Ty) (lt : List Cell) → slice_get M.method.code pc ≡ Some i → T pc ≡ reached st lt → (es : List Edge) × (sends P M i pc (reached st lt) ≡ Some es) × FlowAll P M T es

module _ {P : Program} (w : WellFormed P) {M : Owned} (some : 0 < length M.method.code) {given : Table} (typing : WellTyping P M given) where
  module _ {T : Table} (held : Held P M T) where
    -- what every well-typing takes at p
    module _ {p : ℕ} {st : List Ty} {lt : List Cell} (inside : p < length M.method.code) (fine : Allowed P M (reached st lt)) (below : (other : Table) → WellTyping P M other → LeRow P (reached st lt) (other p)) where
      raise : (r : Row) → Lub P (T p) (reached st lt) r → row_left P M r < row_left P M (T p) → Risen P M T
      raise r lub less =
          let T' = with_row p r T in
          let each : (Q : ℕ → Row → Type 0) → Q p r → ((pc : ℕ) → Q pc (T pc)) → (pc : ℕ) → Q pc (T' pc) = λ Q. with_row_each Q p r T in
          let rises = each (λ pc s. pc < length M.method.code → LeRow P (T pc) s) (λ l. lub.left) (λ pc l. row_refl (allowed_row (held.allowed pc l))) in
          record {
            rows = T';
            held = record {
              allowed = each (λ pc s. pc < length M.method.code → Allowed P M s) (λ l. above_allowed fine lub.right) held.allowed;
              start = row_trans held.start (rises 0 some);
              under = λ other t. each (λ pc s. pc < length M.method.code → LeRow P s (other pc)) (λ l. lub.least (held.under other t p l) (below other t)) (held.under other t);
            };
            less = sum_below_falls (length M.method.code) p (λ pc. row_left P M (T pc)) (λ pc. row_left P M (T' pc)) inside (rw (with_row_here p r T) less) (each (λ pc s. row_left P M s ≤ row_left P M (T pc)) (omega arith) (λ pc. omega arith));
          }

      edge_lands : LeRow P (reached st lt) (T p) ⊎ Risen P M T
      edge_lands =
          let j = (join_laws P w).bounded (held.under given typing p inside) (below given typing) in
          let r = j.0 in
          let lub = (join_laws P w).joined (T p) (reached st lt) (allowed_row (held.allowed p inside)) (allowed_row fine) j.1 in
          ⊎_elim
          (λ (e : T p ≡ r). inl (subst (LeRow P (reached st lt)) (sym e) lub.right))
          (λ (l : row_left P M r < row_left P M (T p)). inr (raise r lub l))
          (row_falls w (above_allowed fine lub.right) lub.left)

    edges_land : (es : List Edge) → AllByRecursion (CarriesAllowed P M) es → ((other : Table) → WellTyping P M other → FlowAll P M other es) → FlowAll P M T es ⊎ Risen P M T
    edges_land [] fine flows = inl no_more
    edges_land (edge p st lt ∷ es) fine flows =
        let inside = (flows_first w (flows given typing)).inside in
        ⊎_elim
        (λ (l : LeRow P (reached st lt) (T p)). ⊎_elim
        (λ (f : FlowAll P M T es). inl (flow (record { inside = inside; below = l }) f))
        (λ (r : Risen P M T). inr r)
        (edges_land es fine.1 (λ other t. flows_rest w (flows other t))))
        (λ (r : Risen P M T). inr r)
        (edge_lands inside fine.0 (λ other t. (flows_first w (flows other t)).below))

    settles : (pc : ℕ) → pc < length M.method.code → Settled P M T pc ⊎ Risen P M T
    settles pc l = go (T pc) refl
      where
        i : Instr
        i = (nth_inside M.method.code pc l).0

        at : slice_get M.method.code pc ≡ Some i
        at = (nth_inside M.method.code pc l).1

        apart : {s : List Ty} {l : List Cell} → unreached ≡ reached s l → ⊥
        apart e = let z : ◌≡◌ {A = ℕ} 0 1 = cc in omega arith

        settled : (st : List Ty) (lt : List Cell) → T pc ≡ reached st lt → (es : List Edge) → sends P M i pc (reached st lt) ≡ Some es → FlowAll P M T es → Settled P M T pc
        settled st lt e es s f j st' lt' is q = (es, subst (λ r. sends P M j pc r ≡ Some es) (sym e ∙ q) (subst (λ k. sends P M k pc (reached st lt) ≡ Some es) (some_inj (sym at ∙ is)) s), f)

        go : (r : Row) → T pc ≡ r → Settled P M T pc ⊎ Risen P M T
        go unreached e = inl (λ i st lt is q. absurd (apart (sym e ∙ q)))
        go (reached st lt) e =
            let below : (other : Table) → WellTyping P M other → LeRow P (reached st lt) (other pc) = λ other t. subst (λ r. LeRow P r (other pc)) e (held.under other t pc l) in
            let sent = sent_below w typing at (below given typing) in
            let fine = sent_allowed w M i pc st lt (subst (Allowed P M) e (held.allowed pc l)) sent.1 in
            let flows : (other : Table) → WellTyping P M other → FlowAll P M other sent.0 = λ other t.
            let s = sent_below w t at (below other t) in subst (FlowAll P M other) (some_inj (sym s.1 ∙ sent.1)) s.2 in
            ⊎_elim (λ (f : FlowAll P M T sent.0). inl (settled st lt e sent.0 sent.1 f)) (λ (r : Risen P M T). inr r) (edges_land sent.0 fine flows)

    least_from : ((pc : ℕ) → pc < length M.method.code → Settled P M T pc) → Least P M T
    least_from settled = record {
      typing = record {
        rows_of = λ pc l. allowed_row (held.allowed pc l);
        start = held.start;
        each = λ pc i st lt is e. let s = settled pc (slice_get_within M.method.code pc _ is) i st lt is e in typed w i pc st lt s.1 s.2;
      };
      least = held.under;
    }

    least_or_risen : Least P M T ⊎ Risen P M T
    least_or_risen = ⊎_elim (λ (s : (pc : ℕ) → pc < length M.method.code → Settled P M T pc). inl (least_from s)) (λ (r : Risen P M T). inr r) (all_or_news (length M.method.code) settles)

  -- rows rise only so often
  rise : (n : ℕ) (T : Table) → Held P M T → table_left P M T ≤ n → (least : Table) × Least P M least
  rise zero T held l = ⊎_elim (λ (s : Least P M T). (T, s)) (λ (r : Risen P M T). let k = r.less in absurd (omega arith)) (least_or_risen held)
  rise (suc n) T held l = ⊎_elim (λ (s : Least P M T). (T, s)) (λ (r : Risen P M T). let k = r.less in rise n r.rows r.held (omega arith)) (least_or_risen held)

-- at first the first instruction alone is reached
abbrev first_table : Owned → Table
first_table M = with_row 0 (first_row M) (λ pc. unreached)

first_held : {P : Program} (w : WellFormed P) {M : Owned} (k : ℕ) → method_at P k ≡ Some M → Held P M (first_table M)
first_held {P} w {M} k m =
    let first = first_allowed w k m in
    let each : (Q : ℕ → Row → Type 0) → Q 0 (first_row M) → ((pc : ℕ) → Q pc unreached) → (pc : ℕ) → Q pc (first_table M pc) = λ Q. with_row_each Q 0 (first_row M) (λ pc. unreached) in
    record {
      allowed = each (λ pc r. pc < length M.method.code → Allowed P M r) (λ l. first) (λ pc l. unreached_allowed);
      start = row_refl (allowed_row first);
      under = λ other t. each (λ pc r. pc < length M.method.code → LeRow P r (other pc)) (λ l. t.start) (λ pc l. le_unreached);
    }

pub typable_has_least : TypableHasLeast
typable_has_least P w k M m rows t = rise w (w.some_code k m) t (table_left P M (first_table M)) (first_table M) (first_held w k m) (omega arith)

-- the least well-typings of all methods
pub least_typings : {P : Program} → WellFormed P → (Ψ : ℕ → Table) → WellTypings P Ψ → (Φ : ℕ → Table) × LeastTypings P Φ
least_typings {P} w Ψ typings = (λ k. (of_method k (method_at P k) refl).0, λ k. (of_method k (method_at P k) refl).1)
  where
    of_method : (k : ℕ) (o : Option Owned) → method_at P k ≡ o → (T : Table) × ((M : Owned) → method_at P k ≡ Some M → Least P M T)
    of_method k None q = (λ pc. unreached, λ M e. absurd (conflict (sym q ∙ e)))
    of_method k (Some N) q = let t = typable_has_least P w k N q (Ψ k) (typings k N q) in (t.0, λ M e. subst (λ N. Least P N t.0) (some_inj (sym q ∙ e)) t.1)
