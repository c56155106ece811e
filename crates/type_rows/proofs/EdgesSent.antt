-- The edges of an instruction by their numbers, and the row that an edge sends. Assumes nothing.
use Rattle.std.proofs.Common.{◌≡◌, ℕ, zero, suc, ◌+◌, ◌-◌, ◌<◌, ◌≤◌, false, List, length, get_or, ℤ, IfSome, Some, None, Option, sym, refl, ap, ◌∙◌, subst, arith, MatchOption}
use Rattle.std.specs.List.{slice_get}
use Rattle.jinja.specs.declared.ty.Ty.{Ty}
use Rattle.jinja.specs.declared.instr.Instr.{Instr}
use Rattle.jinja.specs.declared.instr.Instr.TheVariants.{IfFalse}
use Rattle.jinja.specs.Program.{Program}
use Rattle.jinja.specs.Classes.{maybe}
use Rattle.jinja.specs.Lookups.{Owned, method_at}
use Rattle.jinja.specs.WellFormed.{WellFormed}
use Rattle.jinja.specs.Rows.{Cell, registers}
use Rattle.jinja.specs.Rule.{Edge, Rule, load, store, push, pop, new, getfield, putfield, checkcast, invoke, invoke_null, return, iadd, cmpeq, cmpeq_references, iffalse, goto, throw}
use Rattle.jinja.specs.Transfer.{transfer}
use Rattle.jinja.proofs.Bridge.{transfer_sound}
use Rattle.walk.specs.Limits.{most_nodes}
use Rattle.walk.specs.Flow.{nothing, sent, Lawful, row_lawful}
use Rattle.type_rows.specs.FlowLaws.{sent_at, carries_at, method_monotone}
use Rattle.type_rows.specs.Merging.{Merge, InUse}
use Rattle.type_rows.specs.MethodFlow.{to_handler, refuses, edge_of, carries}
use Rattle.type_rows.specs.Methods.{no_method}
use Rattle.type_rows.specs.Numbers.{Shows, read_row}
use Rattle.type_rows.specs.RowSteps.{row_types, row_cells, Reached}
use Rattle.type_rows.specs.Sending.{sent_to}
use Rattle.type_rows.proofs.Reading.{read_reached}

module _ (P : Program) (M : Owned) (i : Instr) (pc : ℕ) (st : List Ty) (lt : List Cell) where
  pub next_edge : (e : ℕ) → e < 2 → edge_of P M i pc e st lt ≡ maybe (transfer P M i pc st lt) nothing (λ es. sent_at es e)
  next_edge zero l = refl
  next_edge (suc zero) l = refl
  next_edge (suc (suc e)) l = absurd (omega arith)

  pub later_edge : (e : ℕ) → 2 ≤ e → edge_of P M i pc e st lt ≡ maybe (slice_get M.method.handlers (e - 2)) nothing (λ x. to_handler P x i pc st lt)
  later_edge zero l = absurd (omega arith)
  later_edge (suc zero) l = absurd (omega arith)
  later_edge (suc (suc e)) l = let z : suc (suc e) - 2 ≡ e = omega arith in rw z

-- a method with an instruction is one of the program
pub method_found : (o : Option Owned) (pc : ℕ) → pc < length (maybe o no_method (λ m. m)).method.code → o ≡ Some (maybe o no_method (λ m. m))
method_found None pc l = absurd (omega arith)
method_found (Some M) pc l = refl

good_sent : {good : Merge → Type 0} {n k : ℕ} {x : Merge} → Lawful good n (sent k x) → good x
good_sent (row_lawful l g) = g

module _ {P : Program} (w : WellFormed P) {M : Owned} (number : ℕ) (m : method_at P number ≡ Some M) (few : length M.method.code ≤ most_nodes) where
  pub edge_shown : (pc e k : ℕ) (xs ys : List ℕ) (r : Option ℕ) {i : Instr} → slice_get M.method.code pc ≡ Some i → pc < length M.method.code → e < 2 + length M.method.handlers → k ≡ registers M → 0 < get_or xs 0 0 → get_or xs 0 0 ≤ 17 → InUse P M (read_row (registers M) xs) → refuses P M pc (read_row (registers M) xs) ≡ false → edge_of P M i pc e (row_types xs) (row_cells k xs) ≡ sent_to r (row_types ys) (row_cells k ys) → IfSome r (λ _. Reached ys) → IfSome r (λ _. Shows P M ys) × MatchOption r (carries P M pc e (read_row (registers M) xs) ≡ nothing) (λ t. carries P M pc e (read_row (registers M) xs) ≡ sent t (read_row (registers M) ys))
  edge_shown pc e k xs ys None {i} at l el wide p q u f s c =
      (tt, ap (carries P M pc e) (read_reached (registers M) xs p q) ∙ carries_at w M pc at e (row_types xs) (row_cells (registers M) xs) ∙ subst (λ (a : ℕ). edge_of P M i pc e (row_types xs) (row_cells a xs) ≡ nothing) wide s)
  edge_shown pc e k xs ys (Some t) {i} at l el wide p q u f s c =
      let n = registers M in
      let z : carries P M pc e (read_row n xs) ≡ sent t (read_row n ys) = ap (carries P M pc e) (read_reached n xs p q) ∙ carries_at w M pc at e (row_types xs) (row_cells n xs) ∙ subst (λ (a : ℕ). edge_of P M i pc e (row_types xs) (row_cells a xs) ≡ sent_to (Some t) (row_types ys) (row_cells a ys)) wide s ∙ sym (ap (sent t) (read_reached n ys c.above c.low)) in
      (record { whole = c.whole; small = c.small; in_use = good_sent (subst (Lawful (InUse P M) (length M.method.code)) z ((method_monotone w number m few).lawful pc e (read_row n xs) l el u f)) }, z)

-- only IfFalse has a second successor
module _ {P : Program} {M : Owned} where
  one_successor : {i : Instr} {pc : ℕ} {st : List Ty} {lt : List Cell} {es : List Edge} → Rule P M i pc st lt es → ((z : ℤ) → i ≡ IfFalse z → ⊥) → sent_at es 1 ≡ nothing
  one_successor (load e r) n = refl
  one_successor (store l) n = refl
  one_successor (push r) n = refl
  one_successor pop n = refl
  one_successor (new c r) n = refl
  one_successor (getfield e l r) n = refl
  one_successor (putfield e l k) n = refl
  one_successor (checkcast r c k) n = refl
  one_successor (invoke e s m l r) n = refl
  one_successor (invoke_null e) n = refl
  one_successor (return l) n = refl
  one_successor (iadd r) n = refl
  one_successor (cmpeq r) n = refl
  one_successor (cmpeq_references a b r) n = refl
  one_successor (iffalse {z = z} e) n = absurd (n z refl)
  one_successor (goto e) n = refl
  one_successor (throw r) n = refl

pub no_branch : {P : Program} → WellFormed P → (M : Owned) (i : Instr) (pc : ℕ) (st : List Ty) (lt : List Cell) (e : ℕ) → e ≡ 1 → ((z : ℤ) → i ≡ IfFalse z → ⊥) → edge_of P M i pc e st lt ≡ nothing
no_branch {P} w M i pc st lt e q n = ap (λ (k : ℕ). edge_of P M i pc k st lt) q ∙ go (transfer P M i pc st lt) refl
  where
    go : (o : Option (List Edge)) → transfer P M i pc st lt ≡ o → maybe o nothing (λ es. sent_at es 1) ≡ nothing
    go None s = refl
    go (Some es) s = one_successor (transfer_sound w {M = M} i pc st lt s) n
