-- One sweep over a method's code from its first row: every well-typing takes it, and lies above where it ends. Assumes nothing.
use Rattle.std.proofs.Common.{◌≡◌, ℕ, zero, suc, ◌<◌, Bool, true, false, cond, ◌&&◌, eqb, ltb, List, [], ◌∷◌, length, Some, None, Option, sym, refl, ◌∙◌, subst}
use Rattle.std.specs.List.{slice_get, AllByRecursion}
use Rattle.std.proofs.lemmas.Bool.{and_parts, eqb-true, lt-ltb, false≢true}
use Rattle.jinja.specs.declared.instr.Instr.{Instr}
use Rattle.jinja.specs.Options.{◌>>=◌, ◌>>◌}
use Rattle.jinja.specs.Program.{Program}
use Rattle.jinja.specs.Classes.{maybe}
use Rattle.jinja.specs.Lookups.{Owned, method_at}
use Rattle.jinja.specs.WellFormed.{WellFormed}
use Rattle.jinja.specs.Rows.{Row, unreached, reached, Table, first_row}
use Rattle.jinja.specs.Order.{LeRow, le_unreached}
use Rattle.jinja.specs.Rule.{Edge, edge}
use Rattle.jinja.specs.Join.{join_row}
use Rattle.jinja.specs.WellTyping.{FlowAll, WellTyping, LeTable, Least, Untypable}
use Rattle.jinja.specs.Transfer.{sends}
use Rattle.jinja.specs.Rising.{Allowed, unreached_allowed}
use Rattle.jinja.proofs.Options.{conflict, some_inj}
use Rattle.jinja.proofs.Order.{row_trans}
use Rattle.jinja.proofs.Bridge.{flows_first, flows_rest}
use Rattle.jinja.proofs.Join.{join_laws}
use Rattle.jinja.proofs.Sends.{sent_below}
use Rattle.jinja.proofs.Rising.{above_allowed, allowed_row}
use Rattle.jinja.proofs.SentRows.{CarriesAllowed, sent_allowed, first_allowed}
use Rattle.worked.proofs.Tests.{each_place, at_place, row_le, is_typing, row_le_found, typing_found}
use Rattle.std.proofs.lemmas.Option.{slice_get_within}

-- the table with the row r at p
abbrev with_row : ℕ → Row → Table → Table
with_row p r T = λ pc. cond (eqb pc p) r (T pc)

with_row_each : (Q : ℕ → Row → Type 0) (p : ℕ) (r : Row) (T : Table) → Q p r → ((pc : ℕ) → Q pc (T pc)) → (pc : ℕ) → Q pc (with_row p r T pc)
with_row_each Q p r T new old pc = go (eqb pc p) refl
  where
    go : (b : Bool) → eqb pc p ≡ b → Q pc (cond b r (T pc))
    go true e = subst (λ (j : ℕ). Q j r) (sym (eqb-true pc p e)) new
    go false e = old pc

module _ (P : Program) (M : Owned) where
  -- the table with what the edges bring joined in, if they stay in the method and all of it has a join
  abbrev pour : Table → List Edge → Option Table
  pour T [] = Some T
  pour T (edge p st lt ∷ es) = ltb p (length M.method.code) >> (join_row P (T p) (reached st lt) >>= λ r. pour (with_row p r T) es)

  -- and with what the instruction at pc sends
  abbrev visit : ℕ → Table → Option Table
  visit pc T = maybe (slice_get M.method.code pc) (Some T) (λ i. sends P M i pc (T pc) >>= pour T)

  -- the first n instructions, one after the other
  abbrev sweep : ℕ → Table → Option Table
  sweep zero T = Some T
  sweep (suc n) T = sweep n T >>= visit n

  -- from the first row alone
  abbrev pub swept : Option Table
  swept = sweep (length M.method.code) (with_row 0 (first_row M) (λ pc. unreached))

  -- a test of Least: the rows are a well-typing, and a sweep comes to no lower ones
  abbrev pub is_least : Table → Bool
  is_least T = is_typing P M T && maybe swept false (λ S. each_place (λ pc. row_le P (T pc) (S pc)) (length M.method.code))

module _ {P : Program} (w : WellFormed P) {M : Owned} {other : Table} (typing : WellTyping P M other) where
  -- the rows of the table are allowed, and lie below the well-typing
  record Below (T : Table) : Type 0 where
    allowed : (pc : ℕ) → pc < length M.method.code → Allowed P M (T pc)
    under : LeTable P M T other

  -- a computation succeeds, with such a table
  record ComesBelow (o : Option Table) : Type 0 where
    rows : Table
    comes : o ≡ Some rows
    below : Below rows

  pour_below : (T : Table) (es : List Edge) → Below T → AllByRecursion (CarriesAllowed P M) es → FlowAll P M other es → ComesBelow (pour P M T es)
  pour_below T [] b fine f = record { rows = T; comes = refl; below = b }
  pour_below T (edge p st lt ∷ es) b fine f =
      let inside = (flows_first w f).inside in
      let here = (flows_first w f).below in
      let j = (join_laws P w).bounded (b.under p inside) here in
      let lub = (join_laws P w).joined (T p) (reached st lt) (allowed_row (b.allowed p inside)) (allowed_row fine.0) j.1 in
      let each : (Q : ℕ → Row → Type 0) → Q p j.0 → ((pc : ℕ) → Q pc (T pc)) → (pc : ℕ) → Q pc (with_row p j.0 T pc) = λ Q. with_row_each Q p j.0 T in
      let next : Below (with_row p j.0 T) = record {
        allowed = each (λ pc s. pc < length M.method.code → Allowed P M s) (λ l. above_allowed fine.0 lub.right) b.allowed;
        under = each (λ pc s. pc < length M.method.code → LeRow P s (other pc)) (λ l. lub.least (b.under p inside) here) b.under;
      } in
      let rest = pour_below (with_row p j.0 T) es next fine.1 (flows_rest w f) in
      record { rows = rest.rows; comes = rw (lt-ltb _ _ inside, j.1) rest.comes; below = rest.below }

  visit_below : (pc : ℕ) (T : Table) → Below T → ComesBelow (visit P M pc T)
  visit_below pc T b = at (slice_get M.method.code pc) refl
    where
      from : (i : Instr) → slice_get M.method.code pc ≡ Some i → (r : Row) → T pc ≡ r → ComesBelow (sends P M i pc r >>= pour P M T)
      from i is unreached e = record { rows = T; comes = refl; below = b }
      from i is (reached st lt) e =
          let l = slice_get_within M.method.code pc _ is in
          let s = sent_below w typing is (subst (λ r. LeRow P r (other pc)) e (b.under pc l)) in
          let fine = sent_allowed w M i pc st lt (subst (Allowed P M) e (b.allowed pc l)) s.1 in
          subst (λ o. ComesBelow (o >>= pour P M T)) (sym s.1) (pour_below T s.0 b fine s.2)

      at : (o : Option Instr) → slice_get M.method.code pc ≡ o → ComesBelow (maybe o (Some T) (λ i. sends P M i pc (T pc) >>= pour P M T))
      at None e = record { rows = T; comes = refl; below = b }
      at (Some i) e = from i e (T pc) refl

  sweep_below : (n : ℕ) (T : Table) → Below T → ComesBelow (sweep P M n T)
  sweep_below zero T b = record { rows = T; comes = refl; below = b }
  sweep_below (suc n) T b =
      let s = sweep_below n T b in
      subst (λ o. ComesBelow (o >>= visit P M n)) (sym s.comes) (visit_below n s.rows s.below)

  swept_below : (k : ℕ) → method_at P k ≡ Some M → ComesBelow (swept P M)
  swept_below k m =
      let each : (Q : ℕ → Row → Type 0) → Q 0 (first_row M) → ((pc : ℕ) → Q pc unreached) → (pc : ℕ) → Q pc (with_row 0 (first_row M) (λ pc. unreached) pc) = λ Q. with_row_each Q 0 (first_row M) (λ pc. unreached) in
      sweep_below (length M.method.code) (with_row 0 (first_row M) (λ pc. unreached)) (record {
        allowed = each (λ pc r. pc < length M.method.code → Allowed P M r) (λ l. first_allowed w k m) (λ pc l. unreached_allowed);
        under = each (λ pc r. pc < length M.method.code → LeRow P r (other pc)) (λ l. typing.start) (λ pc l. le_unreached);
      })

module _ {P : Program} (w : WellFormed P) {M : Owned} (k : ℕ) (m : method_at P k ≡ Some M) where
  -- where the sweep breaks off there is no well-typing
  pub broken_untypable : swept P M ≡ None → Untypable P M
  broken_untypable e rows t = conflict (sym e ∙ (swept_below w t k m).comes)

  pub least_found : (T : Table) → is_least P M T ≡ true → Least P M T
  least_found T e = let a = and_parts (is_typing P M T) _ e in record { typing = typing_found w a.0; least = λ other t. under (swept P M) refl a.1 other t }
    where
      under : (o : Option Table) → swept P M ≡ o → maybe o false (λ S. each_place (λ pc. row_le P (T pc) (S pc)) (length M.method.code)) ≡ true → (other : Table) → WellTyping P M other → LeTable P M T other
      under None q e other t pc l = absurd (false≢true e)
      under (Some S) q e other t pc l =
          let s = swept_below w t k m in
          let same : S ≡ s.rows = some_inj (sym q ∙ s.comes) in
          row_trans (row_le_found w (T pc) (S pc) (at_place _ (length M.method.code) pc e l)) (subst (λ (R : Table). LeRow P (R pc) (other pc)) (sym same) (s.below.under pc l))
