-- Whether values fit types, by the kind of a value, and value by value. Assumes nothing.
use Rattle.std.proofs.Common.{◌≡◌, ℕ, Bool, true, false, ◌&&◌, List, [], ◌∷◌, length, ℤ, Some, None, refl, arith}
use Rattle.std.proofs.lemmas.Bool.{and_parts, false≢true}
use Rattle.heap.specs.declared.value.Value.{Value}
use Rattle.heap.specs.declared.value.Value.TheVariants as value
use Rattle.heap.specs.declared.charge.ChargeLine.{ChargeLine}
use Rattle.heap.specs.Meaning.{Meaning}
use Rattle.heap.specs.Calls.{vacant}
use Rattle.jinja.specs.declared.ty.Ty.{Ty}
use Rattle.jinja.specs.declared.ty.Ty.TheVariants.{Void, Boolean, Integer}
use Rattle.jinja.specs.Program.{Program}
use Rattle.jinja.specs.Types.{same_type}
use Rattle.jinja.specs.Transfer.{class_le, null_le}
use Rattle.jinja.specs.Values.{class_of, fits, fit_all}

module _ (P : Program) (h : Meaning) {v : Value} (t : Ty) (r : Bool) where
  pub unit_fits : v ≡ value.Unit → r ≡ same_type Void t → r ≡ fits P h v t
  unfolding fits
  unit_fits e s = rw e s

  pub null_fits : v ≡ value.Null → r ≡ null_le P t → r ≡ fits P h v t
  unfolding fits
  null_fits e s = rw e s

  pub boolean_fits : {b : Bool} → v ≡ value.Bool b → r ≡ same_type Boolean t → r ≡ fits P h v t
  unfolding fits
  boolean_fits e s = rw e s

  pub integer_fits : {z : ℤ} → v ≡ value.Int z → r ≡ same_type Integer t → r ≡ fits P h v t
  unfolding fits
  integer_fits e s = rw e s

  pub address_fits : {a c : ℕ} → v ≡ value.Addr a → Some c ≡ class_of h a → r ≡ class_le P c t → r ≡ fits P h v t
  unfolding fits
  address_fits e k s = rw (e, ← k) s

pub nothing_fits : (P : Program) (h : Meaning) {v : Value} (t : Ty) {a : ℕ} → v ≡ value.Addr a → None ≡ class_of h a → false ≡ fits P h v t
unfolding fits
nothing_fits P h t e k = rw (e, ← k)

-- what is no address fits the same types everywhere
pub fits_anywhere : (P : Program) (g h : Meaning) (v : Value) (t : Ty) → ((a : ℕ) → v ≡ value.Addr a → ⊥) → fits P g v t ≡ fits P h v t
unfolding fits
fits_anywhere P g h value.Unit t n = refl
fits_anywhere P g h value.Null t n = refl
fits_anywhere P g h (value.Bool b) t n = refl
fits_anywhere P g h (value.Int z) t n = refl
fits_anywhere P g h (value.Addr a) t n = absurd (n a refl)

-- an address fits nothing where there are no objects
pub nothing_there : (P : Program) (ls : List ChargeLine) {v : Value} (t : Ty) {a : ℕ} → v ≡ value.Addr a → false ≡ fits P (vacant ls) v t
unfolding class_of
nothing_there P ls t e = nothing_fits P (vacant ls) t e refl

module _ (P : Program) (h : Meaning) where
  pub fit_length : (vs : List Value) (ts : List Ty) → fit_all P h vs ts ≡ true → length vs ≡ length ts
  fit_length [] [] e = refl
  fit_length [] (t ∷ ts) e = absurd (false≢true e)
  fit_length (v ∷ vs) [] e = absurd (false≢true e)
  fit_length (v ∷ vs) (t ∷ ts) e = let l = fit_length vs ts (and_parts (fits P h v t) (fit_all P h vs ts) e).1 in omega arith

  pub fit_uneven : (vs : List Value) (ts : List Ty) → (length vs ≡ length ts → ⊥) → false ≡ fit_all P h vs ts
  fit_uneven vs ts u = go (fit_all P h vs ts) refl
    where
      go : (b : Bool) → fit_all P h vs ts ≡ b → false ≡ b
      go true e = absurd (u (fit_length vs ts e))
      go false e = refl

  -- one value, and those behind it
  pub fit_next : {vs vs' : List Value} {ts ts' : List Ty} {v : Value} {t : Ty} {b : Bool} → vs ≡ v ∷ vs' → ts ≡ t ∷ ts' → b ≡ fits P h v t → fit_all P h vs ts ≡ (b && fit_all P h vs' ts')
  fit_next e f g = rw (e, f, ← g)
