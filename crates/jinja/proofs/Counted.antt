-- The heap holds the objects made, and each line's use is their cost. Assumes nothing.
use Rattle.std.proofs.Common.{◌≡◌, ℕ, zero, suc, ◌+◌, ◌≤◌, true, ◌&&◌, leb, List, [], ◌∷◌, ◌++◌, length, set, Some, sym, refl, ap, ◌∙◌, subst, arith}
use Rattle.std.specs.List.{slice_get}
use Rattle.std.proofs.lemmas.List.{length-set, length-map}
use Rattle.std.proofs.lemmas.List.Sums.{sum_by-cons, sum_by_push}
use Rattle.std.proofs.lemmas.Bool.{le-leb, leb-true, and_parts}
use Rattle.heap.specs.declared.value.Value.{Value}
use Rattle.heap.specs.declared.charge.ChargeLine.{ChargeLine}
use Rattle.heap.specs.Meaning.{Object, Meaning, row_limit, cost, used, has_room, admits}
use Rattle.heap.specs.Calls.{with_object, with_field, with_value, after_empty}
use Rattle.jinja.specs.Program.{Program}
use Rattle.jinja.specs.Lookups.{fields_of}
use Rattle.jinja.specs.WellFormed.{WellFormed}
use Rattle.jinja.specs.Order.{Pairwise, nil, cons}
use Rattle.jinja.specs.Values.{start_row}
use Rattle.jinja.specs.History.{cost_of_made, has_room_for}
use Rattle.jinja.proofs.Options.{conflict, some_inj}
use Rattle.jinja.proofs.Objects.{with_value_is}

-- an object of the class, with a value for each field
pub record Makes (P : Program) (o : Object) (c : ℕ) : Type 0 where
  pub class_is : o.class ≡ c
  pub long : length o.row ≡ length (fields_of P c)

pub record Counted (P : Program) (ls : List ChargeLine) (h : Meaning) (cs : List ℕ) : Type 0 where
  pub lines_are : h.lines ≡ ls
  pub objects_are : Pairwise (Makes P) h.objects cs
  pub within : (i : ℕ) (l : ChargeLine) → slice_get ls i ≡ Some l → used l h.objects ≤ l.total

start_row_long : (P : Program) (c : ℕ) → length (start_row P c) ≡ length (fields_of P c)
start_row_long P c = length-map (fields_of P c) _

room_within : (ls : List ChargeLine) (os : List Object) (n i : ℕ) {l : ChargeLine} → has_room ls os n ≡ true → slice_get ls i ≡ Some l → used l os + cost l n ≤ l.total
room_within [] os n i e q = absurd (conflict q)
room_within (x ∷ ls) os n zero e q = subst (λ l. used l os + cost l n ≤ l.total) (some_inj q) (leb-true _ _ (and_parts (leb (used x os + cost x n) x.total) (has_room ls os n) e).0)
room_within (x ∷ ls) os n (suc i) e q = room_within ls os n i (and_parts (leb (used x os + cost x n) x.total) (has_room ls os n) e).1 q

module _ {P : Program} where
  pub used_is : {os : List Object} {cs : List ℕ} (l : ChargeLine) → Pairwise (Makes P) os cs → used l os ≡ cost_of_made P l cs
  used_is l nil = refl
  used_is {cs = cs} l (cons {a = o} {b = c} {xs = os} {ys = ds} m ms) =
      sum_by-cons (λ (o : Object). cost l (length o.row)) o os ∙ ap (λ n. cost l n + used l os) m.long ∙ ap (λ u. cost l (length (fields_of P c)) + u) (used_is l ms) ∙ sym (sum_by-cons (λ c. cost l (length (fields_of P c))) c ds)

  makes_push : {os : List Object} {cs : List ℕ} {o : Object} {c : ℕ} → Pairwise (Makes P) os cs → Makes P o c → Pairwise (Makes P) (os ++ o ∷ []) (cs ++ c ∷ [])
  makes_push nil m = cons m nil
  makes_push (cons x xs) m = cons x (makes_push xs m)

  -- the room that the heap has is the room that the objects made leave
  has_room_is : {os : List Object} {cs : List ℕ} (ls : List ChargeLine) (c : ℕ) → Pairwise (Makes P) os cs → has_room ls os (length (start_row P c)) ≡ has_room_for P ls cs c
  has_room_is [] c ms = refl
  has_room_is (l ∷ ls) c ms = rw (has_room_is ls c ms, used_is l ms, start_row_long P c)

  pub admits_is : (w : WellFormed P) {ls : List ChargeLine} {h : Meaning} {cs : List ℕ} (c : ℕ) → Counted P ls h cs → admits h (length (start_row P c)) ≡ has_room_for P ls cs c
  admits_is w {ls} {h} {cs} c k =
      let few : leb (length (start_row P c)) row_limit ≡ true = le-leb _ _ (let e = start_row_long P c in let f = w.few_fields c in omega arith) in
      ap (λ t. t && has_room h.lines h.objects (length (start_row P c))) few ∙ ap (λ ls. has_room ls h.objects (length (start_row P c))) k.lines_are ∙ has_room_is ls c k.objects_are

  pub counted_empty : {ls : List ChargeLine} (h : Meaning) → h.lines ≡ ls → Counted P ls (after_empty h) []
  counted_empty h e = record { lines_are = e; objects_are = nil; within = λ i l q. omega arith }

  pub counted_add : {ls : List ChargeLine} {h : Meaning} {cs : List ℕ} (c : ℕ) → Counted P ls h cs → admits h (length (start_row P c)) ≡ true → Counted P ls (with_object h c (start_row P c)) (cs ++ c ∷ [])
  counted_add {ls} {h} {cs} c k e =
      let room : has_room ls h.objects (length (start_row P c)) ≡ true = subst (λ ls. has_room ls h.objects (length (start_row P c)) ≡ true) k.lines_are (and_parts (leb (length (start_row P c)) row_limit) _ e).1 in
      record {
        lines_are = k.lines_are;
        objects_are = makes_push k.objects_are (record { class_is = refl; long = start_row_long P c });
        within = λ i l q. rw (sum_by_push (λ (o : Object). cost l (length o.row)) h.objects (record { class = c; row = start_row P c })) (room_within ls h.objects (length (start_row P c)) i room q);
      }

  -- a write keeps classes and lengths
  makes_set : {os : List Object} {cs : List ℕ} {o : Object} (o' : Object) (a : ℕ) → Pairwise (Makes P) os cs → slice_get os a ≡ Some o → o'.class ≡ o.class → length o'.row ≡ length o.row → Pairwise (Makes P) (set os a o') cs
  makes_set o' a nil e c r = nil
  makes_set o' zero (cons m ms) e c r = cons (record { class_is = c ∙ ap (λ (o : Object). o.class) (sym (some_inj e)) ∙ m.class_is; long = r ∙ ap (λ (o : Object). length o.row) (sym (some_inj e)) ∙ m.long }) ms
  makes_set o' (suc a) (cons m ms) e c r = cons m (makes_set o' a ms e c r)

  pub counted_write : {ls : List ChargeLine} {h : Meaning} {cs : List ℕ} {o : Object} (a i : ℕ) (v : Value) → Counted P ls h cs → slice_get h.objects a ≡ Some o → Counted P ls (with_value h a i v) cs
  counted_write {ls} {h} {cs} {o} a i v k e =
      let new = makes_set (with_field o i v) a k.objects_are e refl (length-set o.row i v) in
      subst (λ h. Counted P ls h cs) (sym (with_value_is h a i v e)) (record {
        lines_are = k.lines_are;
        objects_are = new;
        within = λ j l q. let x = used_is l new in let y = used_is l k.objects_are in let z = k.within j l q in omega arith;
      })
