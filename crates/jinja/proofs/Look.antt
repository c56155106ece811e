-- No address passes begin, and what looking shows. Assumes nothing.
use Rattle.std.proofs.Common.{◌≡◌, ℕ, zero, suc, ◌-◌, ◌<◌, ◌≤◌, true, cond, List, [], ◌∷◌, length, Some, None, sym, ap, ◌∙◌, subst, arith}
use Rattle.std.specs.List.{slice_get}
use Rattle.std.proofs.lemmas.Bool.{lt-ltb, le-ltb, and_parts, false≢true}
use Rattle.heap.specs.declared.value.Value.TheVariants as value
use Rattle.heap.specs.Meaning.{Meaning}
use Rattle.heap.specs.Calls.{after_empty}
use Rattle.jinja.specs.declared.ty.Ty.{Ty}
use Rattle.jinja.specs.Program.{Program}
use Rattle.jinja.specs.Values.{class_of, fits, fit_all}
use Rattle.jinja.specs.Look.{from_bottom}
use Rattle.jinja.specs.MachineLaws.{NoAddressBegins, LookLaws, LookLawsHold}
use Rattle.jinja.proofs.Options.{conflict, some_inj, nth_inside}

no_address_fits : (P : Program) (h : Meaning) (t : Ty) (a : ℕ) → fits P (after_empty h) (value.Addr a) t ≡ true → ⊥
unfolding fits class_of
no_address_fits P h t a e = false≢true e

pub no_address_begins : NoAddressBegins
no_address_begins P h [] ts e i a q = conflict q
no_address_begins P h (v ∷ args) [] e i a q = false≢true e
no_address_begins P h (v ∷ args) (t ∷ ts) e zero a q =
    let p = and_parts (fits P (after_empty h) v t) (fit_all P (after_empty h) args ts) e in no_address_fits P h t a (subst (λ v. fits P (after_empty h) v t ≡ true) (some_inj q) p.0)
no_address_begins P h (v ∷ args) (t ∷ ts) e (suc i) a q = no_address_begins P h args ts (and_parts (fits P (after_empty h) v t) (fit_all P (after_empty h) args ts) e).1 i a q

shows : {A : Type 0} (xs : List A) (i : ℕ) → i < length xs → (x : A) × (from_bottom xs i ≡ Some x)
shows xs i l = let r = nth_inside xs (length xs - suc i) (omega arith) in (r.0, ap (λ t. cond t (slice_get xs (length xs - suc i)) None) (lt-ltb i (length xs) l) ∙ r.1)

nothing : {A : Type 0} (xs : List A) (i : ℕ) → length xs ≤ i → from_bottom xs i ≡ None
nothing xs i l = ap (λ t. cond t (slice_get xs (length xs - suc i)) None) (le-ltb i (length xs) l)

top_shows : {A : Type 0} (x : A) (xs : List A) → from_bottom (x ∷ xs) (length xs) ≡ Some x
top_shows x xs =
    let e : suc (length xs) - suc (length xs) ≡ 0 = omega arith in
    ap (λ t. cond t (slice_get (x ∷ xs) (suc (length xs) - suc (length xs))) None) (lt-ltb (length xs) (suc (length xs)) (omega arith)) ∙ ap (slice_get (x ∷ xs)) e

below_stays : {A : Type 0} (x : A) (xs : List A) (i : ℕ) → i < length xs → from_bottom (x ∷ xs) i ≡ from_bottom xs i
below_stays x xs i l =
    let e : suc (length xs) - suc i ≡ suc (length xs - suc i) = omega arith in
    ap (λ t. cond t (slice_get (x ∷ xs) (suc (length xs) - suc i)) None) (lt-ltb i (suc (length xs)) (omega arith)) ∙ ap (slice_get (x ∷ xs)) e ∙ sym (ap (λ t. cond t (slice_get xs (length xs - suc i)) None) (lt-ltb i (length xs) l))

laws_of : {A : Type 0} → LookLaws A
laws_of = record { shows = shows; nothing = nothing; top_shows = top_shows; below_stays = below_stays }

pub look_laws : LookLawsHold
look_laws = (laws_of, laws_of)
