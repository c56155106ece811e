-- What a heap's calls answer, as look-ups in its objects. Assumes nothing.
use Rattle.std.proofs.Common.{◌≡◌, ℕ, false, cond, ◌&&◌, ltb, List, length, get_or, Some, None, Ok, Err, Option, sym, refl, ap, ◌∙◌, ⊎_elim}
use Rattle.std.specs.List.{slice_get}
use Rattle.std.proofs.lemmas.Option.{slice_get-get_or, slice_get_past, slice_get_within}
use Rattle.std.proofs.lemmas.Bool.{lt-ltb, le-ltb, cases_lt}
use Rattle.heap.specs.declared.fault.HeapFault.TheVariants.{NoObject}
use Rattle.heap.specs.declared.value.Value.{Value}
use Rattle.heap.specs.declared.value.Value.TheVariants as value
use Rattle.heap.specs.Meaning.{Object, Meaning}
use Rattle.heap.specs.Calls.{no_object, object_at, has_field, class_answer, read_answer, after_write, with_value}
use Rattle.jinja.specs.Options.{◌>>=◌}
use Rattle.jinja.specs.Classes.{maybe}
use Rattle.jinja.specs.Values.{class_of}
use Rattle.jinja.specs.HeapLaws.{field_at, HeapLawsHold}
use Rattle.jinja.proofs.Options.{conflict}
use Rattle.jinja.proofs.Bridge.{passed}
use Rattle.jinja.proofs.Objects.{object_is}

-- an item by its place, with a default or not
at_place : {A B : Type 0} (xs : List A) (i : ℕ) (d : A) (f : A → B) (b : B) → cond (ltb i (length xs)) (f (get_or xs i d)) b ≡ maybe (slice_get xs i) b f
at_place xs i d f b =
    ⊎_elim
    (λ l. ap (λ t. cond t (f (get_or xs i d)) b) (lt-ltb i (length xs) l) ∙ ap (λ o. maybe o b f) (sym (slice_get-get_or xs i d l)))
    (λ g. ap (λ t. cond t (f (get_or xs i d)) b) (le-ltb i (length xs) g) ∙ ap (λ o. maybe o b f) (sym (slice_get_past xs i g)))
    (cases_lt i (length xs))

maybe_maybe : {A B C : Type 0} (o : Option A) (f : A → B) (c : C) (g : B → C) → maybe (maybe o None (λ a. Some (f a))) c g ≡ maybe o c (λ a. g (f a))
maybe_maybe None f c g = refl
maybe_maybe (Some a) f c g = refl

class_is : (h : Meaning) (a : ℕ) → class_answer h a ≡ maybe (class_of h a) (Err NoObject) (λ c. Ok c)
unfolding class_of
class_is h a = at_place h.objects a no_object (λ o. Ok o.class) (Err NoObject) ∙ sym (maybe_maybe (slice_get h.objects a) (λ o. o.class) (Err NoObject) (λ c. Ok c))

-- a field is there where its object is and has the place
has_field_is : {o : Object} (h : Meaning) (a i : ℕ) → slice_get h.objects a ≡ Some o → has_field h a i ≡ ltb i (length o.row)
has_field_is h a i e = ap (λ t. t && ltb i (length (object_at h a).row)) (lt-ltb _ _ (slice_get_within h.objects a _ e)) ∙ ap (λ (o : Object). ltb i (length o.row)) (object_is h a e)

field_is : (h : Meaning) (a i : ℕ) → read_answer h a i ≡ maybe (field_at h a i) (Err NoObject) (λ v. Ok v)
field_is h a i = go (slice_get h.objects a) refl
  where
    absent : slice_get h.objects a ≡ None → ltb a (length h.objects) ≡ false
    absent e = ⊎_elim (λ l. absurd (conflict (sym e ∙ slice_get-get_or h.objects a no_object l))) (λ g. le-ltb a (length h.objects) g) (cases_lt a (length h.objects))

    go : (o : Option Object) → slice_get h.objects a ≡ o → read_answer h a i ≡ maybe (o >>= λ o. slice_get o.row i) (Err NoObject) (λ v. Ok v)
    go None e = ap (λ t. cond (t && ltb i (length (object_at h a).row)) (Ok (get_or (object_at h a).row i value.Unit)) (Err NoObject)) (absent e)
    go (Some o) e =
        ap (λ t. cond t (Ok (get_or (object_at h a).row i value.Unit)) (Err NoObject)) (has_field_is h a i e)
        ∙ ap (λ (x : Object). cond (ltb i (length o.row)) (Ok (get_or x.row i value.Unit)) (Err NoObject)) (object_is h a e)
        ∙ at_place o.row i value.Unit (λ v. Ok v) (Err NoObject)

written : {w : Value} (h : Meaning) (a i : ℕ) (v : Value) → field_at h a i ≡ Some w → after_write h a i v ≡ with_value h a i v
written h a i v e =
    let o = passed (slice_get h.objects a) (λ o. slice_get o.row i) e in
    ap (λ t. cond t (with_value h a i v) h) (has_field_is h a i o.1 ∙ lt-ltb _ _ (slice_get_within o.0.row i _ o.2))

pub heap_laws : HeapLawsHold
heap_laws h = record { class_is = class_is h; field_is = field_is h; written = written h }
