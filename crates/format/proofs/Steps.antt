-- Steps of reading beside the bytes that stand in a file: a step gives an item exactly where the item's bytes stand and the item passes.
use Rattle.std.proofs.Common.{◌≡◌, ℕ, zero, suc, ◌+◌, Bool, true, false, List, [], ◌∷◌, ◌++◌, length, drop, Ok, Err, sym, refl, ap, ◌∙◌, subst, add_assoc, arith}
use Rattle.std.specs.List.{flat_map}
use Rattle.std.proofs.lemmas.List.{append_assoc, append-nil, length-append}
use Rattle.std.proofs.lemmas.Bool.{and_parts, and_from}
use Rattle.number.proofs.Law.{behind}
use Rattle.format.specs.declared.fault.TableFault.{TableFault}
use Rattle.format.specs.Reading.{Read, then, checked, counted}
use Rattle.format.specs.Rules.{each_after}
use Rattle.format.proofs.Counting.{ok_same}

-- the first of two steps gave a, and the second the answer
pub then_ok : {A B : Type 0} (x : Read A) (k : A → ℕ → Read B) (b : B) (q : ℕ) → then x k ≡ Ok (b, q) → (a : A) × (r : ℕ) × (x ≡ Ok (a, r)) × (k a r ≡ Ok (b, q))
then_ok (Ok r) k b q e = (r.0, r.1, refl, e)
then_ok (Err f) k b q e = cc

-- the same, for a chain of steps
pub then_by : {A B G : Type 0} (x : Read A) (k : A → ℕ → Read B) (b : B) (q : ℕ) → then x k ≡ Ok (b, q) → ((a : A) (r : ℕ) → x ≡ Ok (a, r) → k a r ≡ Ok (b, q) → G) → G
then_by x k b q e f = let w = then_ok x k b q e in f w.0 w.1 w.2 w.3

pub then_from : {A B : Type 0} (x : Read A) (k : A → ℕ → Read B) (a : A) (r : ℕ) (y : Read B) → x ≡ Ok (a, r) → k a r ≡ y → then x k ≡ y
then_from x k a r y e f = ap (λ z. then z k) e ∙ f

pub checked_ok : {A : Type 0} (t : Bool) (f : TableFault) (x : Read A) (a : A × ℕ) → checked t f x ≡ Ok a → (t ≡ true) × (x ≡ Ok a)
checked_ok true f x a e = (refl, e)
checked_ok false f x a e = cc

pub checked_from : {A : Type 0} (t : Bool) (f : TableFault) (x y : Read A) → t ≡ true → x ≡ y → checked t f x ≡ y
checked_from t f x y e h = ap (λ z. checked z f x) e ∙ h

-- what a step gives is the item and the place
pub given : {A : Type 0} (P : A → ℕ → Type 0) (a b : A) (p q : ℕ) → ◌≡◌ {A = Read A} (Ok (a, p)) (Ok (b, q)) → P a p → P b q
given P a b p q e h = subst (λ (z : _ × ℕ). P z.0 z.1) (ok_same (a, p) (b, q) e) h

-- the bytes e stand from p to before q
abbrev pub Stands : List ℕ → ℕ → ℕ → List ℕ → Type 0
Stands file p q e = (drop p file ≡ e ++ drop q file) × (q ≡ p + length e)

module _ (file : List ℕ) where
  pub both : (p q r : ℕ) (d e : List ℕ) → Stands file p q d → Stands file q r e → Stands file p r (d ++ e)
  both p q r d e s t =
      (s.0 ∙ (ap (λ x. d ++ x) t.0 ∙ sym (append_assoc d e (drop r file))), t.1 ∙ (ap (λ x. x + length e) s.1 ∙ (add_assoc p (length d) (length e) ∙ ap (λ x. p + x) (sym (length-append d e)))))

  pub split : (p r : ℕ) (d e : List ℕ) → Stands file p r (d ++ e) → (q : ℕ) × Stands file p q d × Stands file q r e
  split p r d e s =
      let a : drop p file ≡ d ++ (e ++ drop r file) = s.0 ∙ append_assoc d e (drop r file) in
      let b : e ++ drop r file ≡ drop (p + length d) file = behind file p d (e ++ drop r file) a in
      (p + length d, (a ∙ ap (λ x. d ++ x) b, refl), (sym b, s.1 ∙ (ap (λ x. p + x) (length-append d e) ∙ sym (add_assoc p (length d) (length e)))))

  module _ {A : Type 0} (item : List A → ℕ → Read A) (enc : A → List ℕ) (ok : List A → A → Bool) where
    pub counted_reads : ((acc : List A) (p q : ℕ) (a : A) → ok acc a ≡ true → Stands file p q (enc a) → item acc p ≡ Ok (a, q))
        → (xs acc : List A) (p q : ℕ) → each_after ok acc xs ≡ true → Stands file p q (flat_map enc xs) → counted item (length xs) acc p ≡ Ok (acc ++ xs, q)
    counted_reads law [] acc p q h s = let e : p ≡ q = omega (arith, s.1) in rw (append-nil, e) refl
    counted_reads law (x ∷ xs) acc p q h s =
        let k = and_parts (ok acc x) (each_after ok (acc ++ x ∷ []) xs) h in
        let w = split p q (enc x) (flat_map enc xs) s in
        let t = counted_reads law xs (acc ++ x ∷ []) w.0 q k.1 w.2 in
        then_from (item acc p) _ x w.0 _ (law acc p w.0 x k.0 w.1) (t ∙ ap (λ z. Ok (z, q)) (append_assoc acc (x ∷ []) xs))

    counted_added : ((acc : List A) (p q : ℕ) (a : A) → item acc p ≡ Ok (a, q) → (ok acc a ≡ true) × Stands file p q (enc a))
        → (n : ℕ) (acc all : List A) (p q : ℕ) → counted item n acc p ≡ Ok (all, q) → (xs : List A) × (all ≡ acc ++ xs) × (length xs ≡ n) × (each_after ok acc xs ≡ true) × Stands file p q (flat_map enc xs)
    counted_added law zero acc all p q e =
        let s = ok_same _ _ e in
        let a : all ≡ acc = sym (ap (λ (z : List A × ℕ). z.0) s) in
        let b : p ≡ q = ap (λ (z : List A × ℕ). z.1) s in
        ([], a ∙ sym (append-nil acc), refl, refl, (ap (λ x. drop x file) b, omega arith))
    counted_added law (suc n) acc all p q e =
        let w = then_ok (item acc p) (λ a r. counted item n (acc ++ a ∷ []) r) all q e in
        let s = law acc p w.1 w.0 w.2 in
        let v = counted_added law n (acc ++ w.0 ∷ []) all w.1 q w.3 in
        (w.0 ∷ v.0, v.1 ∙ append_assoc acc (w.0 ∷ []) v.0, ap suc v.2, and_from (ok acc w.0) _ s.0 v.3, both p w.1 q _ _ s.1 v.4)

    pub counted_wrote : ((acc : List A) (p q : ℕ) (a : A) → item acc p ≡ Ok (a, q) → (ok acc a ≡ true) × Stands file p q (enc a))
        → (n : ℕ) (xs : List A) (p q : ℕ) → counted item n [] p ≡ Ok (xs, q) → (length xs ≡ n) × (each_after ok [] xs ≡ true) × Stands file p q (flat_map enc xs)
    counted_wrote law n xs p q e = let w = counted_added law n [] xs p q e in rw w.1 (w.2, w.3, w.4)
