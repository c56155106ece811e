-- An object's row: the fields that a class declares, and those above them.
use Rattle.std.proofs.Common.{◌≡◌, ℕ, zero, suc, ◌+◌, ◌-◌, ◌<◌, ◌≤◌, List, [], ◌∷◌, ◌++◌, length, get_or, Some, None, sym, refl, ap, ◌∙◌, inl, inr, arith}
use Rattle.std.specs.List.{slice_get}
use Rattle.std.proofs.lemmas.List.{length-append}
use Rattle.std.proofs.lemmas.Option.{slice_get-get_or}
use Rattle.std.proofs.lemmas.Bool.{cases_lt}
use Rattle.jinja.specs.declared.program.Field.{Field}
use Rattle.jinja.specs.Program.{Program}
use Rattle.jinja.specs.Classes.{superclass_of}
use Rattle.jinja.specs.Lookups.{position, own_fields, own_field, fields_within}
use Rattle.jinja.specs.Lookups as jinja
use Rattle.tables.specs.declared.records.ClassRec.{ClassRec}
use Rattle.tables.specs.declared.tables.Tables.{Tables}
use Rattle.tables.specs.Spans.{part}
use Rattle.tables.specs.Views.{fields_of, program_of}
use Rattle.tables.specs.Records.{record_at}
use Rattle.tables.proofs.Programs.{fields_at}
use Rattle.tables.proofs.Climbs.{row_last, row_on}

module _ (t : Tables) (c : ℕ) where
  pub no_own_fields : record_at t c ≡ None → own_fields (program_of t) c ≡ []
  no_own_fields e = rw (fields_at t c, e) refl

  pub own_fields_at : (r : ClassRec) → record_at t c ≡ Some r → own_fields (program_of t) c ≡ part r.fields (fields_of t)
  own_fields_at r e = rw (fields_at t c, e) refl

pub nth_append_left : {A : Type 0} (xs ys : List A) (i : ℕ) → i < length xs → slice_get (xs ++ ys) i ≡ slice_get xs i
nth_append_left [] ys i h = absurd (omega arith)
nth_append_left (x ∷ xs) ys zero h = refl
nth_append_left (x ∷ xs) ys (suc i) h = nth_append_left xs ys i (omega arith)

pub nth_append_right : {A : Type 0} (xs ys : List A) (i : ℕ) → length xs ≤ i → slice_get (xs ++ ys) i ≡ slice_get ys (i - length xs)
nth_append_right [] ys i h = let e : i ≡ i - 0 = omega arith in ap (slice_get ys) e
nth_append_right (x ∷ xs) ys zero h = absurd (omega arith)
nth_append_right (x ∷ xs) ys (suc i) h =
    let e : i - length xs ≡ suc i - suc (length xs) = omega arith in
    nth_append_right xs ys i (omega arith) ∙ ap (slice_get ys) e

module _ (P : Program) (k c : ℕ) where
  -- the end of a row is what the class declares itself
  pub row_ends : length (own_fields P c) ≤ length (fields_within P k c)
  row_ends =
      elim (cases_lt 0 k) [
        | inl h ↦ omega (arith, simp length-append at (ap length (row_on P k c h)))
        | inr h ↦ omega (arith, ap length (row_last P k c (omega arith)))
      ]

  pub nth_row_own : (i s : ℕ) → s ≡ length (fields_within P k c) - length (own_fields P c) → s ≤ i → slice_get (fields_within P k c) i ≡ slice_get (own_fields P c) (i - s)
  nth_row_own i s e l =
      elim (cases_lt 0 k) [
        | inl h ↦
            let on = row_on P k c h in
            let n = simp length-append at (ap length on) in
            let at : i - length (fields_within P (k - 1) (superclass_of P c)) ≡ i - s = omega arith in
            rw on (nth_append_right (fields_within P (k - 1) (superclass_of P c)) (own_fields P c) i (omega arith) ∙ ap (slice_get (own_fields P c)) at)
        | inr h ↦
            let on = row_last P k c (omega arith) in
            let n = ap length on in
            let at : i ≡ i - s = omega arith in
            rw on (ap (slice_get (own_fields P c)) at)
      ]

  -- what stands before it is in the row of the superclass
  pub row_above : (i s : ℕ) → s ≡ length (fields_within P k c) - length (own_fields P c) → i < s → 0 < k
  row_above i s e l = elim (cases_lt 0 k) [ inl h ↦ h | inr h ↦ absurd (omega (arith, ap length (row_last P k c (omega arith)))) ]

  pub length_row_above : (s : ℕ) → s ≡ length (fields_within P k c) - length (own_fields P c) → 0 < k → s ≡ length (fields_within P (k - 1) (superclass_of P c))
  length_row_above s e h = omega (arith, simp length-append at (ap length (row_on P k c h)))

  pub nth_row_above : (i s : ℕ) → s ≡ length (fields_within P k c) - length (own_fields P c) → i < s → slice_get (fields_within P k c) i ≡ slice_get (fields_within P (k - 1) (superclass_of P c)) i
  nth_row_above i s e l =
      let h = row_above i s e l in
      rw (row_on P k c h) (nth_append_left (fields_within P (k - 1) (superclass_of P c)) (own_fields P c) i (omega (arith, length_row_above s e h)))

module _ (P : Program) (c n : ℕ) where
  pub no_own_field : None ≡ position (λ (x : Field). x.name) n (own_fields P c) → own_field P c n ≡ None
  unfolding own_field
  no_own_field e = rw (sym e) refl

  pub own_field_at : (i : ℕ) (d : Field) → Some i ≡ position (λ (x : Field). x.name) n (own_fields P c) → i < length (own_fields P c) →
      own_field P c n ≡ Some (record { place = length (jinja.fields_of P (superclass_of P c)) + i; ty = (get_or (own_fields P c) i d).ty })
  unfolding own_field
  own_field_at i d e h = rw (sym e, slice_get-get_or (own_fields P c) i d h) refl
