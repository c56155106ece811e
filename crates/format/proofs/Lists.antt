-- Lists in a file: a count that passes a test, and that many items.
use Rattle.std.proofs.Common.{◌≡◌, ℕ, ◌<◌, Bool, true, false, ◌&&◌, leb, List, [], ◌∷◌, ◌++◌, length, Ok, Err, sym, refl, ap, ◌∙◌}
use Rattle.std.specs.List.{flat_map}
use Rattle.number.specs.Laws.{AllBytes}
use Rattle.number.specs.Numbers.{number_limit, bytes}
use Rattle.format.specs.declared.fault.TableFault.TheVariants.{Outside}
use Rattle.format.specs.Encode.{counted_bytes}
use Rattle.format.specs.Reading.{Read, then, checked, counted, any_at, at_most}
use Rattle.format.specs.Rules.{each, each_after}
use Rattle.format.proofs.Steps.{Stands, both, split, then_ok, then_from, checked_ok, checked_from, counted_reads, counted_wrote}
use Rattle.format.proofs.Numbers.{any_reads, any_wrote}

-- a test that does not look back
pub each_is_after : {A : Type 0} (test : A → Bool) (xs before : List A) → each test xs ≡ each_after (λ _. test) before xs
each_is_after test [] before = refl
each_is_after test (x ∷ xs) before = ap (λ b. test x && b) (each_is_after test xs (before ++ x ∷ []))

module _ (file : List ℕ) where
  abbrev pub list_at : {A : Type 0} → (List A → ℕ → Read A) → (ℕ → Bool) → ℕ → Read (List A)
  list_at item test p = then (any_at file p) (λ k q. checked (test k) (Outside p) (counted item k [] q))

  -- a count with a limit is one with a test
  pub at_most_list : {A : Type 0} (item : List A → ℕ → Read A) (most p : ℕ) → then (at_most file most p) (λ k q. counted item k [] q) ≡ list_at item (λ k. leb k most) p
  at_most_list item most p =
      let Then : Read ℕ → Type 0 = λ x. then (then x (λ n q. checked (leb n most) (Outside p) (Ok (n, q)))) (λ k q. counted item k [] q) ≡ then x (λ k q. checked (leb k most) (Outside p) (counted item k [] q)) in
      let go : (x : Read ℕ) → Then x = λ x. elim x as Then [ Ok r ↦ passed (leb r.0 most) r.0 r.1 | Err e ↦ refl ] in
      go (any_at file p)
    where
      passed : (t : Bool) (k q : ℕ) → then (checked t (Outside p) (Ok (k, q))) (λ k q. counted item k [] q) ≡ checked t (Outside p) (counted item k [] q)
      passed true k q = refl
      passed false k q = refl

  module _ {A : Type 0} (item : List A → ℕ → Read A) (enc : A → List ℕ) (ok : List A → A → Bool) (test : ℕ → Bool) where
    pub list_reads : ((acc : List A) (p q : ℕ) (a : A) → ok acc a ≡ true → Stands file p q (enc a) → item acc p ≡ Ok (a, q))
        → (xs : List A) (p q : ℕ) → length xs < number_limit → test (length xs) ≡ true → each_after ok [] xs ≡ true → Stands file p q (counted_bytes enc xs) → list_at item test p ≡ Ok (xs, q)
    list_reads law xs p q l fits kept s =
        let w = split file p q (bytes (length xs)) (flat_map enc xs) s in
        then_from (any_at file p) _ (length xs) w.0 _ (any_reads file p w.0 (length xs) l w.1)
        (checked_from (test (length xs)) _ _ _ fits (counted_reads file item enc ok law xs [] w.0 q kept w.2))

    pub list_wrote : AllBytes file → ((acc : List A) (p q : ℕ) (a : A) → item acc p ≡ Ok (a, q) → (ok acc a ≡ true) × Stands file p q (enc a))
        → (xs : List A) (p q : ℕ) → list_at item test p ≡ Ok (xs, q) → (test (length xs) ≡ true) × (each_after ok [] xs ≡ true) × Stands file p q (counted_bytes enc xs)
    list_wrote small law xs p q e =
        let w = then_ok (any_at file p) _ xs q e in
        let c = checked_ok (test w.0) _ _ _ w.3 in
        let v = counted_wrote file item enc ok law w.0 xs w.1 q c.1 in
        (rw v.0 c.0, v.1, both file p w.1 q (bytes (length xs)) (flat_map enc xs) (rw v.0 (any_wrote file small p w.1 w.0 w.2).1) v.2)

  -- the same of items that do not look back
  module _ {A : Type 0} (item : ℕ → Read A) (enc : A → List ℕ) (ok : A → Bool) (test : ℕ → Bool) where
    pub plain_list_reads : ((p q : ℕ) (a : A) → ok a ≡ true → Stands file p q (enc a) → item p ≡ Ok (a, q))
        → (xs : List A) (p q : ℕ) → length xs < number_limit → test (length xs) ≡ true → each ok xs ≡ true → Stands file p q (counted_bytes enc xs) → list_at (λ _. item) test p ≡ Ok (xs, q)
    plain_list_reads law xs p q l fits kept s = list_reads (λ _. item) enc (λ _. ok) test (λ _. law) xs p q l fits (sym (each_is_after ok xs []) ∙ kept) s

    pub plain_list_wrote : AllBytes file → ((p q : ℕ) (a : A) → item p ≡ Ok (a, q) → (ok a ≡ true) × Stands file p q (enc a))
        → (xs : List A) (p q : ℕ) → list_at (λ _. item) test p ≡ Ok (xs, q) → (test (length xs) ≡ true) × (each ok xs ≡ true) × Stands file p q (counted_bytes enc xs)
    plain_list_wrote small law xs p q e = let w = list_wrote (λ _. item) enc (λ _. ok) test small (λ _. law) xs p q e in (w.0, each_is_after ok xs [] ∙ w.1, w.2)
