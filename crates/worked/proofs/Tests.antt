-- The order of rows, the rows of a method and well-typings, each by a test that computes. Assumes nothing.
use Rattle.std.proofs.Common.{◌≡◌, ℕ, zero, suc, ◌<◌, Bool, true, false, ◌&&◌, eqb, ltb, List, [], ◌∷◌, length, Some, None, Option, sym, refl, subst, ⊎_elim, arith}
use Rattle.std.specs.List.{slice_get, AllByRecursion}
use Rattle.std.proofs.lemmas.Bool.{and_parts, cases_eq, eqb-true, ltb-true, false≢true}
use Rattle.jinja.specs.declared.ty.Ty.{Ty}
use Rattle.jinja.specs.declared.instr.Instr.{Instr}
use Rattle.jinja.specs.Program.{Program}
use Rattle.jinja.specs.Types.{type_exists}
use Rattle.jinja.specs.Classes.{maybe, table}
use Rattle.jinja.specs.Lookups.{Owned}
use Rattle.jinja.specs.WellFormed.{WellFormed}
use Rattle.jinja.specs.Rows.{Cell, usable, unusable, Row, unreached, reached, Table, registers, first_row, CellExists, RowOf, no_row, row}
use Rattle.jinja.specs.Order.{Pairwise, nil, cons, LeCell, le_usable, le_unusable, LeRow, le_unreached, le_reached}
use Rattle.jinja.specs.Rule.{Edge, edge}
use Rattle.jinja.specs.WellTyping.{FlowAll, no_more, flow, Typed, WellTyping}
use Rattle.jinja.specs.Transfer.{type_le, sends}
use Rattle.jinja.proofs.Bridge.{le_found, typed}
use Rattle.format.specs.Rules.{each}
use Rattle.std.proofs.lemmas.Option.{slice_get_within}

-- the test passes at each place below n
abbrev pub each_place : (ℕ → Bool) → ℕ → Bool
each_place test zero = true
each_place test (suc n) = each_place test n && test n

pub at_place : (test : ℕ → Bool) (n pc : ℕ) → each_place test n ≡ true → pc < n → test pc ≡ true
at_place test zero pc e l = absurd (omega arith)
at_place test (suc n) pc e l =
    let p = and_parts (each_place test n) (test n) e in
    ⊎_elim (λ (q : pc ≡ n). subst (λ j. test j ≡ true) (sym q) p.1) (λ (q : pc ≡ n → ⊥). at_place test n pc p.0 (omega arith)) (cases_eq pc n)

-- each item passes
each_found : {A : Type 0} (test : A → Bool) (xs : List A) → each test xs ≡ true → AllByRecursion (λ x. test x ≡ true) xs
each_found test [] e = tt
each_found test (x ∷ xs) e = let p = and_parts (test x) _ e in (p.0, each_found test xs p.1)

-- two lists of one length, compared item by item
abbrev pairs : {A : Type 0} → (A → A → Bool) → List A → List A → Bool
pairs test [] [] = true
pairs test [] (y ∷ ys) = false
pairs test (x ∷ xs) [] = false
pairs test (x ∷ xs) (y ∷ ys) = test x y && pairs test xs ys

pairs_found : {A : Type 0} {R : A → A → Type 0} (test : A → A → Bool) → ((x y : A) → test x y ≡ true → R x y) → (xs ys : List A) → pairs test xs ys ≡ true → Pairwise R xs ys
pairs_found test found [] [] e = nil
pairs_found test found [] (y ∷ ys) e = absurd (false≢true e)
pairs_found test found (x ∷ xs) [] e = absurd (false≢true e)
pairs_found test found (x ∷ xs) (y ∷ ys) e = let p = and_parts (test x y) _ e in cons (found x y p.0) (pairs_found test found xs ys p.1)

abbrev cell_le : Program → Cell → Cell → Bool
cell_le P c unusable = true
cell_le P (usable t) (usable u) = type_le P t u
cell_le P unusable (usable u) = false

abbrev pub row_le : Program → Row → Row → Bool
row_le P unreached s = true
row_le P (reached s l) unreached = false
row_le P (reached s l) (reached s' l') = pairs (type_le P) s s' && pairs (cell_le P) l l'

-- types of the program, and one cell for each register
abbrev cell_exists : Program → Cell → Bool
cell_exists P (usable t) = type_exists (length (table P)) t
cell_exists P unusable = true

abbrev row_fits : Program → Owned → Row → Bool
row_fits P M unreached = true
row_fits P M (reached st lt) = each (type_exists (length (table P))) st && (each (cell_exists P) lt && eqb (length lt) (registers M))

module _ (P : Program) (M : Owned) (T : Table) where
  -- each edge stays in the method, and its row takes what it gets
  abbrev takes : List Edge → Bool
  takes [] = true
  takes (edge p st lt ∷ es) = (ltb p (length M.method.code) && row_le P (reached st lt) (T p)) && takes es

  abbrev settles_from : ℕ → Instr → Row → Bool
  settles_from pc i r = maybe (sends P M i pc r) false takes

  abbrev settles : ℕ → Bool
  settles pc = maybe (slice_get M.method.code pc) true (λ i. settles_from pc i (T pc))

  -- the test of WellTyping
  abbrev pub is_typing : Bool
  is_typing = row_le P (first_row M) (T 0) && each_place (λ pc. row_fits P M (T pc) && settles pc) (length M.method.code)

module _ {P : Program} (w : WellFormed P) where
  cell_le_found : (c d : Cell) → cell_le P c d ≡ true → LeCell P c d
  cell_le_found (usable t) (usable u) e = le_usable (le_found w t u e)
  cell_le_found (usable t) unusable e = le_unusable
  cell_le_found unusable (usable u) e = absurd (false≢true e)
  cell_le_found unusable unusable e = le_unusable

  pub row_le_found : (r s : Row) → row_le P r s ≡ true → LeRow P r s
  row_le_found unreached s e = le_unreached
  row_le_found (reached s l) unreached e = absurd (false≢true e)
  row_le_found (reached s l) (reached s' l') e =
      let p = and_parts (pairs (type_le P) s s') _ e in le_reached (pairs_found _ (le_found w) s s' p.0) (pairs_found _ cell_le_found l l' p.1)

  cells_exist : (cs : List Cell) → AllByRecursion (λ c. cell_exists P c ≡ true) cs → AllByRecursion (CellExists P) cs
  cells_exist [] q = tt
  cells_exist (usable t ∷ cs) q = (q.0, cells_exist cs q.1)
  cells_exist (unusable ∷ cs) q = (tt, cells_exist cs q.1)

  module _ {M : Owned} where
    row_fits_found : (r : Row) → row_fits P M r ≡ true → RowOf P M r
    row_fits_found unreached e = no_row
    row_fits_found (reached st lt) e =
        let p = and_parts (each (type_exists (length (table P))) st) _ e in
        let q = and_parts (each (cell_exists P) lt) _ p.1 in
        row (each_found _ st p.0) (cells_exist lt (each_found _ lt q.0)) (eqb-true _ _ q.1)

    module _ {T : Table} where
      takes_found : (es : List Edge) → takes P M T es ≡ true → FlowAll P M T es
      takes_found [] e = no_more
      takes_found (edge p st lt ∷ es) e =
          let a = and_parts (ltb p (length M.method.code) && row_le P (reached st lt) (T p)) _ e in
          let b = and_parts (ltb p (length M.method.code)) _ a.0 in
          flow (record { inside = ltb-true _ _ b.0; below = row_le_found (reached st lt) (T p) b.1 }) (takes_found es a.1)

      settles_found : (pc : ℕ) (i : Instr) (st : List Ty) (lt : List Cell) → settles_from P M T pc i (reached st lt) ≡ true → Typed P M T i pc st lt
      settles_found pc i st lt e = go (sends P M i pc (reached st lt)) refl e
        where
          go : (o : Option (List Edge)) → sends P M i pc (reached st lt) ≡ o → maybe o false (takes P M T) ≡ true → Typed P M T i pc st lt
          go None q e = absurd (false≢true e)
          go (Some es) q e = typed w i pc st lt q (takes_found es e)

      pub typing_found : is_typing P M T ≡ true → WellTyping P M T
      typing_found e =
          let a = and_parts (row_le P (first_row M) (T 0)) _ e in
          let at : (pc : ℕ) → pc < length M.method.code → (row_fits P M (T pc) ≡ true) × (settles P M T pc ≡ true) = λ pc l. and_parts (row_fits P M (T pc)) _ (at_place _ (length M.method.code) pc a.1 l) in
          record {
            rows_of = λ pc l. row_fits_found (T pc) (at pc l).0;
            start = row_le_found (first_row M) (T 0) a.0;
            each = λ pc i st lt is q. settles_found pc i st lt (subst (λ r. settles_from P M T pc i r ≡ true) q (subst (λ o. maybe o true (λ i. settles_from P M T pc i (T pc)) ≡ true) is (at pc (slice_get_within M.method.code pc _ is)).1));
          }
