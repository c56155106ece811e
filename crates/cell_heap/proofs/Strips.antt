-- What a strip of cells means before and after one object more, or another value in a field.
use Rattle.std.proofs.Common.{◌≡◌, ℕ, zero, suc, ◌+◌, ◌*◌, ◌<◌, ◌≤◌, List, [], ◌∷◌, ◌++◌, length, get_or, set, sym, refl, ap, ◌∙◌, inl, inr, add-zero, one-mul, add-one, arith}
use Rattle.std.proofs.lemmas.List.FromFn.{get_or-map-range_with_len, map-range_with_len_more, fill_by_all, sum_by-map-range_with_len_more}
use Rattle.std.proofs.lemmas.List.{length-set, get_or-set_same, get_or-set_other}
use Rattle.std.proofs.lemmas.Bool.{cases_lt, cases_eq}
use Rattle.heap.specs.declared.value.Value.{Value}
use Rattle.heap.specs.declared.value.Value.TheVariants.{Unit as unit}
use Rattle.heap.specs.declared.charge.ChargeLine.{ChargeLine}
use Rattle.heap.specs.Meaning.{Object, used, cost}
use Rattle.heap.specs.Calls.{no_object, with_field}
use Rattle.cell_heap.specs.Strip.{Reading, start, row_from, object_from, objects_of}
use Rattle.cell_heap.specs.StripLaws.{row_length, objects_length, object_there}

module _ {X : Type 0} (k : Reading X) (f : ℕ → X) where
  pub field_there : (p i : ℕ) → i < k.len (f p) → get_or (row_from k f p) i unit ≡ k.value (f (p + (1 + i)))
  field_there p i l = get_or-map-range_with_len (λ j. k.value (f (p + (1 + j)))) 0 (k.len (f p)) i i unit l (omega arith)

  -- a later object starts past this one's fields
  pub start_next : (a n : ℕ) → a < n → start k f a + (1 + k.len (f (start k f a))) ≤ start k f n
  start_next a zero l = absurd (omega arith)
  start_next a (suc n) l =
      let F : ℕ → ℕ = λ b. start k f b + (1 + k.len (f (start k f b))) in
      elim (cases_lt a n) [
        | inl h ↦ let r = start_next a n h in omega arith
        | inr h ↦ let e : a ≡ n = omega arith in let q = ap F e in omega arith
      ]

  -- two objects have no cell in common
  apart : (a b i j : ℕ) → (b ≡ a → ⊥) → i < k.len (f (start k f a)) → j ≤ k.len (f (start k f b)) → start k f b + j ≡ start k f a + (1 + i) → ⊥
  apart a b i j ne l m e =
      elim (cases_lt b a) [
        | inl h ↦ let x = start_next b a h in omega arith
        | inr h ↦ let x = start_next a b (omega arith) in omega arith
      ]

  objects_more : (n : ℕ) → objects_of k f (n + 1) ≡ objects_of k f n ++ object_from k f (start k f n) ∷ []
  objects_more n = map-range_with_len_more (λ a. object_from k f (start k f a)) 0 n n (omega arith)

  -- at 1 for an object and 1 for a field, the use is the count of the cells
  pub used_strip : (x : ChargeLine) → x.fixed ≡ 1 → x.per_field ≡ 1 → (n : ℕ) → used x (objects_of k f n) ≡ start k f n
  used_strip x e g zero = refl
  used_strip x e g (suc n) =
      let C : Object → ℕ = λ o. cost x (length o.row) in
      let s = ap (λ m. used x (objects_of k f m)) (sym (add-one n)) in
      let m = sum_by-map-range_with_len_more C (λ a. object_from k f (start k f a)) 0 n n (omega arith) in
      let h = used_strip x e g n in
      let r = row_length k f (start k f n) in
      let t = ap (λ y. y * length (row_from k f (start k f n))) g in
      let o = one-mul (length (row_from k f (start k f n))) in
      omega arith

-- f before a change, g after it
module _ {X : Type 0} (k : Reading X) (f g : ℕ → X) where
  start_same : (n : ℕ) → ((b : ℕ) → b < n → g (start k f b) ≡ f (start k f b)) → start k g n ≡ start k f n
  start_same zero h = refl
  start_same (suc n) h =
      let e = start_same n (λ b l. h b (omega arith)) in
      let q = ap (λ p. k.len (g p)) e ∙ ap k.len (h n (omega arith)) in
      omega arith

  -- an object that g shows at p
  object_is : (o : Object) (p : ℕ) → o.class ≡ k.class (g p) → length o.row ≡ k.len (g p) → ((i : ℕ) → i < length o.row → get_or o.row i unit ≡ k.value (g (p + (1 + i)))) → o ≡ object_from k g p
  object_is o p c l v =
      let r : o.row ≡ row_from k g p = fill_by_all (λ j. k.value (g (p + (1 + j)))) o.row (k.len (g p)) unit l (λ i h. v i (rw l h)) in
      ap (λ y. record { class = y; row = o.row }) c ∙ ap (λ y. record { class = k.class (g p); row = y }) r

  objects_are : (os : List Object) (n : ℕ) → length os ≡ n → ((a : ℕ) → a < n → get_or os a no_object ≡ object_from k g (start k g a)) → os ≡ objects_of k g n
  objects_are os n l h = fill_by_all (λ a. object_from k g (start k g a)) os n no_object l h

  -- where the two agree on an object's cells, they show one object
  object_same : (p : ℕ) → ((j : ℕ) → j ≤ k.len (f p) → g (p + j) ≡ f (p + j)) → object_from k f p ≡ object_from k g p
  object_same p h =
      let z : g p ≡ f p = rw add-zero at (h 0 (omega arith)) in
      object_is (object_from k f p) p (sym (ap k.class z)) (row_length k f p ∙ sym (ap k.len z))
      (λ i l. let q : i < k.len (f p) = rw (row_length k f p) at l in field_there k f p i q ∙ sym (ap k.value (h (1 + i) (omega arith))))

  -- one object more, past the others
  module _ (n : ℕ) (same : (j : ℕ) → j < start k f n → g j ≡ f j) where
    pub starts_before : (a : ℕ) → a ≤ n → start k g a ≡ start k f a
    starts_before a h = start_same a (λ b m. same (start k f b) (let x = start_next k f b n (omega arith) in omega arith))

    pub strip_push : (c : ℕ) (vs : List Value) → k.class (g (start k f n)) ≡ c → k.len (g (start k f n)) ≡ length vs → ((i : ℕ) → i < length vs → k.value (g (start k f n + (1 + i))) ≡ get_or vs i unit) → objects_of k g (n + 1) ≡ objects_of k f n ++ (record { class = c; row = vs }) ∷ []
    strip_push c vs e l v =
        let old : objects_of k f n ≡ objects_of k g n = objects_are (objects_of k f n) n (objects_length k f n)
        (λ a h. object_there k f n a h ∙ object_same (start k f a) (λ j m. same (start k f a + j) (let x = start_next k f a n h in omega arith)) ∙ ap (object_from k g) (sym (starts_before a (omega arith)))) in
        let new : record { class = c; row = vs } ≡ object_from k g (start k f n) = object_is (record { class = c; row = vs }) (start k f n) (sym e) (sym l) (λ i h. sym (v i h)) in
        objects_more k g n
        ∙ ap (λ os. os ++ object_from k g (start k g n) ∷ []) (sym old)
        ∙ ap (λ o. objects_of k f n ++ o ∷ []) (ap (object_from k g) (starts_before n (omega arith)) ∙ sym new)

  -- another value in a field
  module _ (n a i : ℕ) (v : Value) (l : a < n) (m : i < k.len (f (start k f a))) (same : (j : ℕ) → (j ≡ start k f a + (1 + i) → ⊥) → g j ≡ f j) (e : k.value (g (start k f a + (1 + i))) ≡ v) where
    head_kept : (b : ℕ) → g (start k f b) ≡ f (start k f b)
    head_kept b =
        same (start k f b)
        (λ q. elim (cases_eq b a) [
          | inl h ↦ let x = ap (start k f) h in omega arith
          | inr h ↦ apart k f a b i 0 h m (omega arith) (omega arith)
        ])

    pub starts_kept : (b : ℕ) → start k g b ≡ start k f b
    starts_kept b = start_same b (λ c h. head_kept c)

    object_put : with_field (object_from k f (start k f a)) i v ≡ object_from k g (start k f a)
    object_put =
        let p = start k f a in
        let o = with_field (object_from k f p) i v in
        let r = row_length k f p in
        let w = length-set (row_from k f p) i v in
        object_is o p (sym (ap k.class (head_kept a))) (w ∙ r ∙ sym (ap k.len (head_kept a)))
        (λ j h. elim (cases_eq j i) [
          | inl q ↦ ap (λ y. get_or o.row y unit) q ∙ get_or-set_same (row_from k f p) i v unit (omega arith) ∙ sym e ∙ ap (λ y. k.value (g (p + (1 + y)))) (sym q)
          | inr q ↦ get_or-set_other (row_from k f p) i j v unit q ∙ field_there k f p j (omega arith) ∙ sym (ap k.value (same (p + (1 + j)) (λ y. q (omega arith))))
        ])

    pub strip_put : set (objects_of k f n) a (with_field (object_from k f (start k f a)) i v) ≡ objects_of k g n
    strip_put =
        let os = objects_of k f n in
        let o = with_field (object_from k f (start k f a)) i v in
        let s = objects_length k f n in
        objects_are (set os a o) n (length-set os a o ∙ s)
        (λ b h. elim (cases_eq b a) [
          | inl q ↦ ap (λ y. get_or (set os a o) y no_object) q ∙ get_or-set_same os a o no_object (omega arith) ∙ object_put ∙ ap (object_from k g) (sym (starts_kept a)) ∙ ap (λ y. object_from k g (start k g y)) (sym q)
          | inr q ↦ get_or-set_other os a b o no_object q ∙ object_there k f n b h ∙ object_same (start k f b) (λ j x. same (start k f b + j) (apart k f a b i j q m x)) ∙ ap (object_from k g) (sym (starts_kept b))
        ])
