-- The class and the values of an object, as a heap answers them. Assumes nothing.
use Rattle.std.proofs.Common.{◌≡◌, ℕ, ◌≤◌, ltb, List, [], ◌∷◌, length, get_or, drop, Some, None, Ok, Err, Option, Result, sym, refl, ap, ◌∙◌, inl, inr, arith}
use Rattle.std.specs.Result.{result_ok}
use Rattle.std.specs.List.{slice_get}
use Rattle.std.proofs.lemmas.Option.{slice_get-get_or, slice_get_past}
use Rattle.std.proofs.lemmas.Bool.{cases_lt, lt-ltb, le-ltb}
use Rattle.heap.specs.declared.value.Value.{Value}
use Rattle.heap.specs.declared.value.Value.TheVariants.{Unit as unit}
use Rattle.heap.specs.declared.fault.HeapFault.{HeapFault}
use Rattle.heap.specs.declared.fault.HeapFault.TheVariants.{NoObject}
use Rattle.heap.specs.Meaning.{Object, Meaning}
use Rattle.heap.specs.Calls.{no_object, class_answer, read_answer, has_field, with_value}
use Rattle.jinja.specs.declared.program.FieldPlace.{FieldPlace}
use Rattle.jinja.specs.Options.{◌>>=◌, ◌>>◌}
use Rattle.jinja.specs.Program.{Program}
use Rattle.jinja.specs.Classes.{maybe, at_or_below}
use Rattle.jinja.specs.Values.{class_of, fits}
use Rattle.engine.specs.FieldValues.{value_at, field_value, put_top}
use Rattle.engine.specs.Stepping.{top_stack, past}
use Rattle.jinja.specs.Step.{Frame, goes, going}
use Rattle.jinja.proofs.Options.{conflict, some_inj}

class_by : (h : Meaning) (a : ℕ) → class_answer h a ≡ maybe (class_of h a) (Err NoObject) (λ c. Ok c)
unfolding class_of
class_by h a = elim (cases_lt a (length h.objects)) [
  | inl l ↦ rw (lt-ltb a (length h.objects) l, slice_get-get_or h.objects a no_object l)
  | inr g ↦ rw (le-ltb a (length h.objects) g, slice_get_past h.objects a g)
]

-- without the fault
answered : {X : Type 0} (o : Option X) {r : Result X HeapFault} → r ≡ maybe o (Err NoObject) (λ c. Ok c) → result_ok r ≡ o
answered None e = ap result_ok e
answered (Some x) e = ap result_ok e

pub class_answered : (h : Meaning) (a : ℕ) {r : Result ℕ HeapFault} → r ≡ class_answer h a → result_ok r ≡ class_of h a
class_answered h a e = answered (class_of h a) (e ∙ class_by h a)

read_by : (h : Meaning) (a i : ℕ) → read_answer h a i ≡ maybe (value_at h a i) (Err NoObject) (λ v. Ok v)
read_by h a i = elim (cases_lt a (length h.objects)) [
  | inl l ↦
      (let row = (get_or h.objects a no_object).row in
      elim (cases_lt i (length row)) [
        | inl k ↦ rw (lt-ltb a (length h.objects) l, slice_get-get_or h.objects a no_object l, lt-ltb i (length row) k, slice_get-get_or row i unit k)
        | inr k ↦ rw (lt-ltb a (length h.objects) l, slice_get-get_or h.objects a no_object l, le-ltb i (length row) k, slice_get_past row i k)
      ])
  | inr g ↦ rw (le-ltb a (length h.objects) g, slice_get_past h.objects a g)
]

pub read_answered : (h : Meaning) (a i : ℕ) {r : Result Value HeapFault} → r ≡ read_answer h a i → result_ok r ≡ value_at h a i
read_answered h a i e = answered (value_at h a i) (e ∙ read_by h a i)

module _ (P : Program) (h : Meaning) (x : FieldPlace) (c a : ℕ) where
  pub field_lost : None ≡ class_of h a → None ≡ field_value P h x c a
  unfolding class_of
  field_lost e = go (slice_get h.objects a) e
    where
      go : (o : Option Object) → None ≡ maybe o None (λ o. Some o.class) → None ≡ (o >>= λ o. at_or_below P o.class c >> (slice_get o.row x.place >>= λ v. fits P h v x.ty >> Some v))
      go None e = refl
      go (Some o) e = cc

  pub field_found : {d : ℕ} → Some d ≡ class_of h a → field_value P h x c a ≡ (at_or_below P d c >> (value_at h a x.place >>= λ v. fits P h v x.ty >> Some v))
  unfolding class_of
  field_found {d} e = go (slice_get h.objects a) e
    where
      go : (o : Option Object) → Some d ≡ maybe o None (λ o. Some o.class) → (o >>= λ o. at_or_below P o.class c >> (slice_get o.row x.place >>= λ v. fits P h v x.ty >> Some v)) ≡ (at_or_below P d c >> ((o >>= λ o. slice_get o.row x.place) >>= λ v. fits P h v x.ty >> Some v))
      go None e = cc
      go (Some o) e = let s : d ≡ o.class = cc in rw s

module _ (P : Program) (h : Meaning) (x : FieldPlace) (c a : ℕ) (v : Value) where
  pub put_lost : (fs : List Frame) → None ≡ class_of h a → put_top P h x c a v fs ≡ None
  unfolding class_of
  put_lost [] e = refl
  put_lost (f ∷ rest) e = go (slice_get h.objects a) e
    where
      go : (o : Option Object) → None ≡ maybe o None (λ o. Some o.class) → (o >>= λ o. at_or_below P o.class c >> (ltb x.place (length o.row) >> going (with_value h a x.place v) f (drop 2 f.stack) rest)) ≡ None
      go None e = refl
      go (Some o) e = cc

  pub put_found : (fs : List Frame) {d : ℕ} → 2 ≤ length (top_stack fs) → Some d ≡ class_of h a → put_top P h x c a v fs ≡ (at_or_below P d c >> (has_field h a x.place >> Some (goes (with_value h a x.place v) (past 2 fs))))
  unfolding class_of
  put_found [] l e = absurd (omega arith)
  put_found (f ∷ rest) {d} l e = elim (cases_lt a (length h.objects)) [
    | inl k ↦
        (let n = slice_get-get_or h.objects a no_object k in
        let o = get_or h.objects a no_object in
        let s : d ≡ o.class = some_inj (rw n at e) in
        rw (n, s, lt-ltb a (length h.objects) k))
    | inr k ↦ absurd (conflict (sym (rw (slice_get_past h.objects a k) at e)))
  ]
