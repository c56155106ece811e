-- How much is left to do falls with each mark that is taken away, and does not rise where a row rises. Assumes nothing.
use Rattle.std.proofs.Common.{◌≡◌, ℕ, zero, suc, ◌+◌, ◌*◌, ◌<◌, ◌≤◌, true, false, sym, refl, ap, ◌∙◌, subst, ⊎_elim, mul-le-mul_right, add-mul, arith}
use Rattle.std.proofs.lemmas.Bool.{cases_eq}
use Rattle.walk.specs.Framework.{Framework, nodes}
use Rattle.walk.specs.Solution.{Table}
use Rattle.walk.specs.Walking.{Nodes, weigh, sum_to, weight, Raised}

sum_to_same : (n : ℕ) (f h : ℕ → ℕ) → ((j : ℕ) → h j ≡ f j) → sum_to n h ≡ sum_to n f
unfolding sum_to
sum_to_same zero f h e = refl
sum_to_same (suc n) f h e =
    let a = e n in
    let b = sum_to_same n f h e in
    omega arith

-- below k the sum is as it was
sum_to_below : (n k : ℕ) (f h : ℕ → ℕ) → n ≤ k → ((j : ℕ) → (j ≡ k → ⊥) → h j ≡ f j) → sum_to n h ≡ sum_to n f
unfolding sum_to
sum_to_below zero k f h l e = refl
sum_to_below (suc n) k f h l e =
    let a = e n (omega arith) in
    let b = sum_to_below n k f h (omega arith) e in
    omega arith

-- where f changes at one place only
sum_to_at : (n k : ℕ) (f h : ℕ → ℕ) → k < n → ((j : ℕ) → (j ≡ k → ⊥) → h j ≡ f j) → sum_to n h + f k ≡ sum_to n f + h k
unfolding sum_to
sum_to_at zero k f h l e = absurd (omega arith)
sum_to_at (suc n) k f h l e =
    ⊎_elim
    (λ (p : n ≡ k).
    let b = sum_to_below n k f h (omega arith) e in
    let c = ap f p in
    let d = ap h p in
    omega arith)
    (λ (p : n ≡ k → ⊥).
    let a = e n p in
    let b = sum_to_at n k f h (omega arith) e in
    omega arith)
    (cases_eq n k)

module _ (m : Framework) where
  -- one mark taken away
  pub weight_clear : (T : Table m) (d d' : Nodes) (i : ℕ) → i < nodes m → d i ≡ true → d' i ≡ false → ((j : ℕ) → (j ≡ i → ⊥) → d' j ≡ d j) → weight m T d' < weight m T d
  unfolding weight weigh
  weight_clear T d d' i l p q keeps =
      let s = sum_to_at (nodes m) i (λ j. weigh (d j)) (λ j. weigh (d' j)) l (λ j ne. ap weigh (keeps j ne)) in
      let a : weigh (d i) ≡ 1 = ap weigh p in
      let b : weigh (d' i) ≡ 0 = ap weigh q in
      omega arith

  -- one row raised, and its node marked
  weight_rise : (T T' : Table m) (d d' : Nodes) (k : ℕ) → k < nodes m → m.left (T' k) < m.left (T k) → ((j : ℕ) → (j ≡ k → ⊥) → T' j ≡ T j) → ((j : ℕ) → (j ≡ k → ⊥) → d' j ≡ d j) → weight m T' d' ≤ weight m T d
  unfolding weight weigh
  weight_rise T T' d d' k l less same keeps =
      let n = nodes m in
      let s = sum_to_at n k (λ j. weigh (d j)) (λ j. weigh (d' j)) l (λ j ne. ap weigh (keeps j ne)) in
      let r = sum_to_at n k (λ j. m.left (T j)) (λ j. m.left (T' j)) l (λ j ne. ap m.left (same j ne)) in
      let one : weigh (d' k) ≤ 1 = elim (d' k) as (λ b. weigh b ≤ 1) [ true ↦ omega arith | false ↦ omega arith ] in
      let A = sum_to n (λ j. m.left (T j)) in
      let A' = sum_to n (λ j. m.left (T' j)) in
      let low : A' + 1 ≤ A = omega arith in
      let big : (A' + 1) * (n + 1) ≤ A * (n + 1) = mul-le-mul_right (n + 1) low in
      let split = add-mul A' 1 (n + 1) in
      omega arith

  -- nothing changed
  weight_same : (T T' : Table m) (d d' : Nodes) → ((j : ℕ) → T' j ≡ T j) → ((j : ℕ) → d' j ≡ d j) → weight m T' d' ≡ weight m T d
  unfolding weight
  weight_same T T' d d' same keeps =
      ap (λ (s : ℕ). s * (nodes m + 1) + sum_to (nodes m) (λ j. weigh (d' j))) (sum_to_same (nodes m) (λ j. m.left (T j)) (λ j. m.left (T' j)) (λ j. ap m.left (same j)))
      ∙ ap (λ (s : ℕ). sum_to (nodes m) (λ j. m.left (T j)) * (nodes m + 1) + s) (sum_to_same (nodes m) (λ j. weigh (d j)) (λ j. weigh (d' j)) (λ j. ap weigh (keeps j)))

  -- a fact of k and of all others
  everywhere : {P : ℕ → Type 0} (k : ℕ) → P k → ((j : ℕ) → (j ≡ k → ⊥) → P j) → (j : ℕ) → P j
  everywhere {P} k here other j = ⊎_elim (λ (p : j ≡ k). subst P (sym p) here) (other j) (cases_eq j k)

  pub weight_raised : {k : ℕ} {x : m.Row} {T T' : Table m} {d d' : Nodes} → k < nodes m → m.good (T k) → m.good x → Raised m k x T d T' d' → weight m T' d' ≤ weight m T d
  weight_raised {k} {x} {T} {T'} {d} {d'} l good_k good_x raised =
      ⊎_elim
      (λ (p : (d' k ≡ true) × (T' k ≡ T k → ⊥)).
      let falls = m.lattice.rises (T k) x good_k good_x (λ e. p.1 (raised.here ∙ e)) in
      let r : m.left (T' k) < m.left (T k) = subst (λ (y : m.Row). m.left y < m.left (T k)) (sym raised.here) falls in
      weight_rise T T' d d' k l r raised.other raised.others)
      (λ (p : (d' k ≡ d k) × (T' k ≡ T k)).
      let e = weight_same T T' d d' (everywhere {P = λ j. T' j ≡ T j} k p.1 raised.other) (everywhere {P = λ j. d' j ≡ d j} k p.0 raised.others) in
      omega arith)
      raised.told
