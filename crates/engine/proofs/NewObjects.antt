-- New objects: the values that their fields start with, and the step of New. Assumes nothing.
use Rattle.std.proofs.Common.{◌≡◌, ℕ, zero, suc, ◌+◌, ◌-◌, ◌<◌, ◌≤◌, Bool, true, false, ◌≢◌, List, [], ◌∷◌, map, length, get_or, take, set, Some, None, Option, sym, refl, ap, ◌∙◌, subst, inl, inr, arith}
use Rattle.std.specs.List.{slice_get}
use Rattle.std.proofs.lemmas.List.{length-map, length-take-le, take_more, take_more_set, get_or-take, get_or_default, get_or-set_same, get_or-set_other, ext_get_or}
use Rattle.std.proofs.lemmas.Option.{slice_get-get_or}
use Rattle.std.proofs.lemmas.Bool.{cases_lt, lt-leb, lt-ltb}
use Rattle.heap.specs.declared.value.Value.{Value}
use Rattle.heap.specs.declared.value.Value.TheVariants as value
use Rattle.heap.specs.Meaning.{Meaning, row_limit, admits}
use Rattle.jinja.specs.declared.ty.Ty.{Ty}
use Rattle.jinja.specs.declared.instr.Instr.TheVariants.{New}
use Rattle.jinja.specs.declared.program.Field.{Field}
use Rattle.jinja.specs.Classes.{maybe, is_class}
use Rattle.jinja.specs.Lookups.{Owned, own_fields, fields_within, fields_of}
use Rattle.jinja.specs.Program.{Program}
use Rattle.jinja.specs.Step.{Frame, out_of_memory_at, raise}
use Rattle.jinja.specs.Values.{start_value, start_row}
use Rattle.jinja.proofs.Options.{conflict, some_inj, nth_inside}
use Rattle.tables.proofs.Rows.{row_ends, nth_row_own}
use Rattle.engine.specs.declared.next.Next.{Next}
use Rattle.engine.specs.declared.next.Next.TheVariants.{Goes}
use Rattle.engine.specs.Stepping.{top_stack, past_with, exec_top, settle}
use Rattle.engine.specs.Creating.{appended, created, Started, SameFrom}

start_found : (fs : List Field) (i : ℕ) {t : Ty} → Some t ≡ maybe (slice_get fs i) None (λ x. Some x.ty) → start_value t ≡ get_or (map (λ (f : Field). start_value f.ty) fs) i value.Unit
start_found [] i e = absurd (conflict (sym e))
start_found (f ∷ fs) zero e = ap start_value (some_inj e)
start_found (f ∷ fs) (suc i) e = start_found fs i e

-- one more value of a row
pub row_more : {X : Type 0} (xs ys : List X) (i : ℕ) (v d : X) → i < length xs → i < length ys → take i xs ≡ take i ys → v ≡ get_or ys i d → take (i + 1) (set xs i v) ≡ take (i + 1) ys
row_more xs ys i v d l m e r = rw (take_more_set xs i v l, take_more ys i d m, e, r)

-- one more field
pub started_more : (fs : List Field) (s i : ℕ) (row : List Value) (v : Value) (e : Field) → s + i < length row → i < length fs → v ≡ start_value (get_or fs i e).ty → ((j : ℕ) (d : Field) → j < i → get_or row (s + j) value.Unit ≡ start_value (get_or fs j d).ty) → (j : ℕ) (d : Field) → j < i + 1 → get_or (set row (s + i) v) (s + j) value.Unit ≡ start_value (get_or fs j d).ty
started_more fs s i row v e l m r w j d u = elim (cases_lt j i) [
  | inl b ↦ (let ne : s + j ≢ s + i = omega arith in get_or-set_other row (s + i) (s + j) v value.Unit ne ∙ w j d b)
  | inr b ↦
      (let at : j ≡ i = omega arith in
      rw at (get_or-set_same row (s + i) v value.Unit l ∙ r ∙ ap (λ (f : Field). start_value f.ty) (get_or_default fs i e d m)))
]

pub same_more : (s i : ℕ) (vs row : List Value) (v : Value) → SameFrom (s + i) vs row → SameFrom (s + (i + 1)) vs (set row (s + i) v)
same_more s i vs row v w k l = let ne : k ≢ s + i = omega arith in get_or-set_other row (s + i) k v value.Unit ne ∙ w k (omega arith)

-- the values of a class in the row of a class below, and those behind them
module _ (P : Program) (left at c n end start : ℕ) (own : List Field) (row after : List Value) where
  pub row_written : own ≡ own_fields P at → end ≡ length (fields_within P left at) → start ≡ end - length own → Started own start after → SameFrom (start + length own) row after → ((i : ℕ) → i < end → slice_get (fields_within P left at) i ≡ slice_get (fields_of P c) i) → ((k : ℕ) → end ≤ k → k < n → get_or row k value.Unit ≡ get_or (start_row P c) k value.Unit) → (k : ℕ) → start ≤ k → k < n → get_or after k value.Unit ≡ get_or (start_row P c) k value.Unit
  row_written o e s new same above old k l m =
      let ends = row_ends P left at in
      let all = ap length o in
      elim (cases_lt k end) [
        | inl b ↦
            (let j = k - start in
            let w = nth_inside own j (omega (arith, ends, all)) in
            let f = get_or own j w.0 in
            let from : start ≡ length (fields_within P left at) - length (own_fields P at) = omega (arith, all) in
            let found = sym (above k b) ∙ nth_row_own P left at k start from l ∙ ap (λ (fs : List Field). slice_get fs j) (sym o) ∙ slice_get-get_or own j w.0 (omega (arith, ends, all)) in
            let place : start + j ≡ k = omega arith in
            rw place at (new j w.0 (omega (arith, ends, all))) ∙ start_found (fields_of P c) k (sym (ap (λ (q : Option Field). maybe q None (λ x. Some x.ty)) found)))
        | inr b ↦ same k (omega (arith, ends, all)) ∙ old k b m
      ]

pub row_whole : (row : List Value) (n : ℕ) (all : List Value) → n ≡ length all → n ≤ length row → ((k : ℕ) → k < n → get_or row k value.Unit ≡ get_or all k value.Unit) → take n row ≡ all
row_whole row n all e l w =
    let t = length-take-le n row l in
    ext_get_or value.Unit (take n row) all (omega (arith, t)) (λ i b. let b : i < n = omega (arith, t) in get_or-take n row i value.Unit b ∙ w i b)

module _ (P : Program) (h : Meaning) (c : ℕ) where
  -- a row that is too long
  pub created_long : row_limit < length (fields_of P c) → (None, h) ≡ created P h c
  created_long l = let n = length-map (fields_of P c) (λ (f : Field). start_value f.ty) in rw (lt-leb (length (start_row P c)) row_limit (omega (arith, n)))

  pub created_is : appended h c (start_row P c) ≡ created P h c
  created_is = go (admits h (length (start_row P c))) refl
    where
      go : (b : Bool) → admits h (length (start_row P c)) ≡ b → appended h c (start_row P c) ≡ created P h c
      go true t = rw t
      go false t = rw t

  module _ (M : Owned) (class : is_class P c ≡ true) where
    pub new_goes : (fs : List Frame) → 0 < length fs → length (top_stack fs) < M.method.height → {a : ℕ} {g : Meaning} → (Some a, g) ≡ created P h c → (Some Goes, g, past_with 0 (value.Addr a) fs) ≡ settle h fs (exec_top P (New c) h M fs)
    new_goes [] some low e = absurd (omega arith)
    new_goes (f ∷ rest) some low {a} {g} e = go (admits h (length (start_row P c))) refl
      where
        go : (b : Bool) → admits h (length (start_row P c)) ≡ b → (Some Goes, g, past_with 0 (value.Addr a) (f ∷ rest)) ≡ settle h (f ∷ rest) (exec_top P (New c) h M (f ∷ rest))
        go true t =
            let s = rw t at e in
            rw (class, lt-ltb (length f.stack) M.method.height low, t, some_inj (ap (λ p. p.0) s), ap (λ p. p.1) s)
        go false t = let s = rw t at e in absurd (conflict (sym (ap (λ p. p.0) s)))

    pub new_fails : (fs : List Frame) → 0 < length fs → length (top_stack fs) < M.method.height → {g : Meaning} {r : Option Next} {gs : List Frame} → (None, g) ≡ created P h c → (r, g, gs) ≡ settle g fs (raise P g out_of_memory_at fs) → (r, g, gs) ≡ settle h fs (exec_top P (New c) h M fs)
    new_fails [] some low e s = absurd (omega arith)
    new_fails (f ∷ rest) some low {g} {r} {gs} e s = go (admits h (length (start_row P c))) refl
      where
        go : (b : Bool) → admits h (length (start_row P c)) ≡ b → (r, g, gs) ≡ settle h (f ∷ rest) (exec_top P (New c) h M (f ∷ rest))
        go true t = let z = rw t at e in absurd (conflict (ap (λ p. p.0) z))
        go false t =
            let same : g ≡ h = ap (λ p. p.1) (rw t at e) in
            rw (class, lt-ltb (length f.stack) M.method.height low, t, same) (subst (λ (m : Meaning). (r, m, gs) ≡ settle m (f ∷ rest) (raise P m out_of_memory_at (f ∷ rest))) same s)
