-- Loops that read a counted number of items: their turns, their lengths, and items that do not look back.
use Rattle.std.proofs.Common.{◌≡◌, ℕ, zero, suc, ◌+◌, ◌-◌, ◌<◌, ◌≤◌, List, [], ◌∷◌, ◌++◌, length, Ok, Err, Result, sym, refl, ap, ◌∙◌, arith}
use Rattle.std.proofs.lemmas.List.{append_assoc, append-nil, length_push}
use Rattle.format.specs.Reading.{Read, counted, then}
use Rattle.format.specs.declared.fault.TableFault.{TableFault}

module _ {A : Type 0} (item : List A → ℕ → Read A) where
  -- a turn of a loop that reads n items
  pub counted_more : (n i : ℕ) (acc : List A) (p : ℕ) → i < n → counted item (n - i) acc p ≡ then (item acc p) (λ a q. counted item (n - (i + 1)) (acc ++ a ∷ []) q)
  counted_more n i acc p h = let e : n - i ≡ suc (n - (i + 1)) = omega arith in rw e refl

  -- the turn that gave a
  pub counted_ok : (n i : ℕ) (acc : List A) (p q : ℕ) (a : A) → i < n → item acc p ≡ Ok (a, q) → counted item (n - i) acc p ≡ counted item (n - (i + 1)) (acc ++ a ∷ []) q
  counted_ok n i acc p q a h e = counted_more n i acc p h ∙ (rw e refl)

  -- the turn that was refused
  pub counted_err : (n i : ℕ) (acc : List A) (p : ℕ) (e : TableFault) → i < n → item acc p ≡ Err e → counted item (n - i) acc p ≡ Err e
  counted_err n i acc p f h e = counted_more n i acc p h ∙ (rw e refl)

  pub counted_all : (n i : ℕ) (acc : List A) (p : ℕ) → n ≤ i → counted item (n - i) acc p ≡ Ok (acc, p)
  counted_all n i acc p h = let e : n - i ≡ zero = omega arith in rw e refl

-- what two answers that are one hold
pub ok_same : {A E : Type 0} (x y : A) → ◌≡◌ {A = Result A E} (Ok x) (Ok y) → x ≡ y
ok_same x y e = cc

pub err_same : {A E : Type 0} {f g : E} → ◌≡◌ {A = Result A E} (Err f) (Err g) → f ≡ g
err_same e = cc

-- items behind others
abbrev pub behind_all : {A : Type 0} → List A → Read (List A) → Read (List A)
behind_all front (Ok r) = Ok (front ++ r.0, r.1)
behind_all front (Err e) = Err e

module _ {A : Type 0} (item : ℕ → Read A) where
  counted_behind : (n : ℕ) (front acc : List A) (p : ℕ) → counted (λ _. item) n (front ++ acc) p ≡ behind_all front (counted (λ _. item) n acc p)
  counted_behind zero front acc p = refl
  counted_behind (suc n) front acc p =
      let Goal : Read A → Type 0 = λ x. then x (λ a q. counted (λ _. item) n ((front ++ acc) ++ a ∷ []) q) ≡ behind_all front (then x (λ a q. counted (λ _. item) n (acc ++ a ∷ []) q)) in
      let go : (x : Read A) → Goal x =
      λ x. elim x as Goal [ Ok r ↦ rw append_assoc (counted_behind n front (acc ++ r.0 ∷ []) r.1) | Err e ↦ refl ] in
      go (item p)

  split_ok : (front all : List A) (q : ℕ) (x : Read (List A)) → behind_all front x ≡ Ok (all, q) → (code : List A) × (all ≡ front ++ code) × (x ≡ Ok (code, q))
  split_ok front all q (Ok r) e = let s = ok_same _ _ e in (r.0, sym (ap (λ z. z.0) s), ap (λ z. Ok (r.0, z)) (ap (λ z. z.1) s))
  split_ok front all q (Err f) e = cc

  split_err : (front : List A) (x : Read (List A)) (f : TableFault) → behind_all front x ≡ Err f → x ≡ Err f
  split_err front (Ok r) f e = cc
  split_err front (Err g) f e = cc

  pub behind_ok : (n : ℕ) (front all : List A) (p q : ℕ) → counted (λ _. item) n front p ≡ Ok (all, q) → (code : List A) × (all ≡ front ++ code) × (counted (λ _. item) n [] p ≡ Ok (code, q))
  behind_ok n front all p q e = split_ok front all q _ (sym (counted_behind n front [] p) ∙ rw append-nil e)

  pub behind_err : (n : ℕ) (front : List A) (p : ℕ) (f : TableFault) → counted (λ _. item) n front p ≡ Err f → counted (λ _. item) n [] p ≡ Err f
  behind_err n front p f e = split_err front _ f (sym (counted_behind n front [] p) ∙ rw append-nil e)

module _ {A : Type 0} (item : List A → ℕ → Read A) where
  pub length_counted : (n : ℕ) (acc all : List A) (p q : ℕ) → counted item n acc p ≡ Ok (all, q) → length all ≡ length acc + n
  length_counted zero acc all p q e = let h : acc ≡ all = ap (λ z. z.0) (ok_same _ _ e) in rw (sym h) (omega arith)
  length_counted (suc n) acc all p q e =
      let Goal : Read A → Type 0 = λ x. then x (λ a q. counted item n (acc ++ a ∷ []) q) ≡ Ok (all, q) → length all ≡ length acc + suc n in
      let go : (x : Read A) → Goal x =
      λ x. elim x as Goal [ Ok r ↦ (λ h. length_counted n (acc ++ r.0 ∷ []) all r.1 q h ∙ rw length_push (omega arith)) | Err f ↦ (λ h. cc) ] in
      go (item acc p) e

module _ {A : Type 0} (item : List A → ℕ → Read A) where
  step_ok : (n : ℕ) (acc acc' : List A) (q : ℕ) (x : Read A) → then x (λ a r. Ok (acc ++ a ∷ [], r)) ≡ Ok (acc', q) → then x (λ a r. counted item n (acc ++ a ∷ []) r) ≡ counted item n acc' q
  step_ok n acc acc' q (Ok r) e = let s = ok_same _ _ e in ap (λ (z : List A × ℕ). counted item n z.0 z.1) s
  step_ok n acc acc' q (Err f) e = cc

  step_err : (n : ℕ) (acc : List A) (f : TableFault) (x : Read A) → ◌≡◌ {A = Read (List A)} (then x (λ a r. Ok (acc ++ a ∷ [], r))) (Err f) → then x (λ a r. counted item n (acc ++ a ∷ []) r) ≡ Err f
  step_err n acc f (Ok r) e = cc
  step_err n acc f (Err g) e = cc

  -- a turn of a loop that adds an item to those in hand
  pub counted_step_ok : (n i : ℕ) (acc acc' : List A) (p q : ℕ) → i < n → then (item acc p) (λ a r. Ok (acc ++ a ∷ [], r)) ≡ Ok (acc', q) → counted item (n - i) acc p ≡ counted item (n - (i + 1)) acc' q
  counted_step_ok n i acc acc' p q h e = counted_more item n i acc p h ∙ step_ok (n - (i + 1)) acc acc' q (item acc p) e

  pub counted_step_err : (n i : ℕ) (acc : List A) (p : ℕ) (f : TableFault) → i < n → ◌≡◌ {A = Read (List A)} (then (item acc p) (λ a r. Ok (acc ++ a ∷ [], r))) (Err f) → counted item (n - i) acc p ≡ Err f
  counted_step_err n i acc p f h e = counted_more item n i acc p h ∙ step_err (n - (i + 1)) acc f (item acc p) e
