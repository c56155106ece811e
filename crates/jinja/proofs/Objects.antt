-- The heap grows and is written: objects keep their classes and go on fitting. Assumes nothing.
use Rattle.std.proofs.Common.{◌≡◌, ℕ, zero, suc, ◌⊎◌, List, [], ◌∷◌, ◌++◌, length, set, Some, sym, refl, ap, ◌∙◌, subst, inl, inr, ⊎_elim}
use Rattle.std.specs.List.{slice_get}
use Rattle.std.proofs.lemmas.Option.{slice_get-get_or, slice_get_within}
use Rattle.heap.specs.declared.value.Value.{Value}
use Rattle.heap.specs.Meaning.{Object, Meaning}
use Rattle.heap.specs.Calls.{no_object, object_at, with_objects, with_object, with_field, with_value}
use Rattle.jinja.specs.declared.ty.Ty.{Ty}
use Rattle.jinja.specs.Program.{Program}
use Rattle.jinja.specs.Classes.{IsClass}
use Rattle.jinja.specs.WellFormed.{WellFormed}
use Rattle.jinja.specs.Lookups.{fields_of}
use Rattle.jinja.specs.Values.{class_of, start_row}
use Rattle.jinja.specs.Fits.{Fits, field_types, ObjectFits, ObjectsFit, Exceptions}
use Rattle.jinja.proofs.Options.{conflict, some_inj, maybe_found, nth_front}
use Rattle.jinja.proofs.Existing.{fields_exist}
use Rattle.jinja.proofs.Pairwise.{pairs_put}
use Rattle.jinja.proofs.Values.{Grows, all_grow, fit_grow, starts_fit}

pub nth_last : {A : Type 0} (xs : List A) (a : A) → slice_get (xs ++ a ∷ []) (length xs) ≡ Some a
nth_last [] a = refl
nth_last (x ∷ xs) a = nth_last xs a

-- an item of a list with one more, or with one replaced
nth_added : {A : Type 0} (xs : List A) (a : A) (i : ℕ) {y : A} → slice_get (xs ++ a ∷ []) i ≡ Some y → (slice_get xs i ≡ Some y) ⊎ (a ≡ y)
nth_added [] a zero e = inr (some_inj e)
nth_added [] a (suc i) e = absurd (conflict e)
nth_added (x ∷ xs) a zero e = inl e
nth_added (x ∷ xs) a (suc i) e = nth_added xs a i e

nth_set : {A : Type 0} (xs : List A) (a : A) (b i : ℕ) {y : A} → slice_get (set xs b a) i ≡ Some y → (slice_get xs i ≡ Some y) ⊎ (a ≡ y)
nth_set [] a b i e = inl e
nth_set (x ∷ xs) a zero zero e = inr (some_inj e)
nth_set (x ∷ xs) a zero (suc i) e = inl e
nth_set (x ∷ xs) a (suc b) zero e = inl e
nth_set (x ∷ xs) a (suc b) (suc i) e = nth_set xs a b i e

pub class_object : (h : Meaning) (a : ℕ) {c : ℕ} → class_of h a ≡ Some c → (o : Object) × (slice_get h.objects a ≡ Some o) × (o.class ≡ c)
unfolding class_of
class_object h a e = let r = maybe_found (slice_get h.objects a) (λ o. Some o.class) e in (r.0, r.1, some_inj r.2)

pub object_class : (h : Meaning) (a : ℕ) {o : Object} → slice_get h.objects a ≡ Some o → class_of h a ≡ Some o.class
unfolding class_of
object_class h a e = rw e

pub grows_add : (h : Meaning) (c : ℕ) (vs : List Value) → Grows h (with_object h c vs)
grows_add h c vs a d e = let o = class_object h a e in object_class (with_object h c vs) a (nth_front h.objects _ a o.1) ∙ ap Some o.2

pub class_new : (h : Meaning) (c : ℕ) (vs : List Value) → class_of (with_object h c vs) (length h.objects) ≡ Some c
class_new h c vs = object_class (with_object h c vs) (length h.objects) (nth_last h.objects _)

-- what an address shows is what stands there
pub object_is : (h : Meaning) (a : ℕ) {o : Object} → slice_get h.objects a ≡ Some o → object_at h a ≡ o
object_is h a e = some_inj (sym (slice_get-get_or h.objects a no_object (slice_get_within h.objects a _ e)) ∙ e)

pub with_value_is : (h : Meaning) (a i : ℕ) (v : Value) {o : Object} → slice_get h.objects a ≡ Some o → with_value h a i v ≡ with_objects h (set h.objects a (with_field o i v))
with_value_is h a i v e = ap (λ o. with_objects h (set h.objects a (with_field o i v))) (object_is h a e)

-- another object of the same class at b
set_classes : (os : List Object) (b a : ℕ) (o' : Object) {o x : Object} → slice_get os b ≡ Some o → o'.class ≡ o.class → slice_get os a ≡ Some x → (y : Object) × (slice_get (set os b o') a ≡ Some y) × (y.class ≡ x.class)
set_classes [] b a o' q r e = absurd (conflict e)
set_classes (z ∷ os) zero zero o' q r e = (o', refl, r ∙ ap (λ (o : Object). o.class) (some_inj (sym q ∙ e)))
set_classes (z ∷ os) zero (suc a) o' q r e = (_, e, refl)
set_classes (z ∷ os) (suc b) zero o' q r e = (_, e, refl)
set_classes (z ∷ os) (suc b) (suc a) o' q r e = set_classes os b a o' q r e

pub grows_write : (h : Meaning) (b i : ℕ) (v : Value) {o : Object} → slice_get h.objects b ≡ Some o → Grows h (with_value h b i v)
grows_write h b i v {o} q a c e =
    let x = class_object h a e in
    let y = set_classes h.objects b a (with_field o i v) q refl x.1 in
    rw (with_value_is h b i v q) (object_class (with_objects h (set h.objects b (with_field o i v))) a y.1 ∙ ap Some (y.2 ∙ x.2))

pub exceptions_grow : {h h' : Meaning} → Grows h h' → Exceptions h → Exceptions h'
exceptions_grow g x = record { at_0 = g _ _ x.at_0; at_1 = g _ _ x.at_1; at_2 = g _ _ x.at_2 }

module _ {P : Program} where
  object_grow : {h h' : Meaning} {o : Object} → Grows h h' → ObjectFits P h o → ObjectFits P h' o
  object_grow g f = record { exists = f.exists; row_fits = all_grow g f.row_fits }

  pub objects_written : {h : Meaning} {o : Object} {v : Value} {t : Ty} (a i : ℕ) → ObjectsFit P h → slice_get h.objects a ≡ Some o → slice_get (field_types P o.class) i ≡ Some t → Fits P h v t → ObjectsFit P (with_value h a i v)
  objects_written {h} {o} {v} a i f e q x = record { each = λ b y r. written b y (subst (λ x. slice_get (set h.objects a (with_field x i v)) b ≡ Some y) (object_is h a e) r) }
    where
      g : Grows h (with_value h a i v)
      g = grows_write h a i v e

      new : ObjectFits P (with_value h a i v) (with_field o i v)
      new = let old = f.each a o e in record { exists = old.exists; row_fits = pairs_put i (all_grow g old.row_fits) q (fit_grow g x) }

      written : (b : ℕ) (y : Object) → slice_get (set h.objects a (with_field o i v)) b ≡ Some y → ObjectFits P (with_value h a i v) y
      written b y r = ⊎_elim (λ old. object_grow g (f.each b y old)) (λ is. subst (ObjectFits P (with_value h a i v)) is new) (nth_set h.objects (with_field o i v) a b r)

  pub objects_added : {h : Meaning} (w : WellFormed P) (c : ℕ) → IsClass P c → ObjectsFit P h → ObjectsFit P (with_object h c (start_row P c))
  objects_added {h} w c i f = record { each = λ b y r. ⊎_elim (λ old. object_grow g (f.each b y old)) (λ is. subst (ObjectFits P (with_object h c (start_row P c))) is new) (nth_added h.objects _ b r) }
    where
      g : Grows h (with_object h c (start_row P c))
      g = grows_add h c (start_row P c)

      new : ObjectFits P (with_object h c (start_row P c)) (record { class = c; row = start_row P c })
      new = record { exists = i; row_fits = starts_fit (fields_of P c) (fields_exist w c) }
