-- Binary digits of words: one digit set, one cleared, and the lowest that is set. Assumes nothing.
use Rattle.std.proofs.Common.{◌≡◌, ℕ, zero, suc, ◌+◌, ◌-◌, ◌/◌, ◌%◌, ◌^◌, ◌<◌, ◌≤◌, max, sym, refl, ap, ◌∙◌, subst, ap₂, ⊎_elim, one-mul, pow-suc, div-one, add-one, one-add, arith}
use native.Mathlib.Nat.{div-eq_of_lt}
use lib.Bits.{bit_or, bit_xor, differ, or_shr, or_step, xor_shr, xor_step}
use lib.Count.{count_trailing_zeros, under}
use Rattle.std.proofs.lemmas.Nat.{shl-shr, shr-shr, pow-add, pow_below, shr_below}
use Rattle.std.proofs.lemmas.Bool.{cases_lt}
use Rattle.walk.specs.Marks.{digit}

digit_same : (b : ℕ) → digit (2 ^ b) b ≡ 1
digit_same b = ap (λ (n : ℕ). n / 2 ^ b % 2) (sym (one-mul (2 ^ b))) ∙ ap (λ (n : ℕ). n % 2) (shl-shr 1 b)

digit_other : (b c : ℕ) → (c ≡ b → ⊥) → digit (2 ^ b) c ≡ 0
digit_other b c ne =
    ⊎_elim
    (λ (l : b < c). ap (λ (n : ℕ). n % 2) (div-eq_of_lt (pow_below b c l)))
    (λ (l : c ≤ b).
    let d = b - c - 1 in
    let e : b ≡ suc d + c = omega arith in
    let p = ap (λ (n : ℕ). 2 ^ n / 2 ^ c % 2) e ∙ ap (λ (n : ℕ). n / 2 ^ c % 2) (pow-add 2 (suc d) c) ∙ ap (λ (n : ℕ). n % 2) (shl-shr (2 ^ suc d) c) ∙ ap (λ (n : ℕ). n % 2) (pow-suc 2 d) in
    p ∙ omega arith)
    (cases_lt b c)

digit_or : (v w c : ℕ) → digit (bit_or v w) c ≡ max (digit v c) (digit w c)
digit_or v w c =
    let a = v / 2 ^ c in
    let b = w / 2 ^ c in
    let s = or_step a b in
    ap (λ (n : ℕ). n % 2) (or_shr v w c) ∙ omega arith

digit_xor : (v w c r : ℕ) → differ (digit v c) (digit w c) ≡ r → r < 2 → digit (bit_xor v w) c ≡ r
digit_xor v w c r e l =
    let s = xor_step (v / 2 ^ c) (w / 2 ^ c) in
    ap (λ (n : ℕ). n % 2) (xor_shr v w c) ∙ omega arith

differ_zero : (x : ℕ) → differ x 0 ≡ x
differ_zero zero = refl
differ_zero (suc x) = refl

-- a word with digit b set
pub set_here : (w b : ℕ) → digit (bit_or w (2 ^ b)) b ≡ 1
set_here w b = let s = digit_same b in digit_or w (2 ^ b) b ∙ omega arith

pub set_other : (w b c : ℕ) → (c ≡ b → ⊥) → digit (bit_or w (2 ^ b)) c ≡ digit w c
set_other w b c ne = let s = digit_other b c ne in digit_or w (2 ^ b) c ∙ omega arith

-- a word with digit b, which was set, cleared
pub clear_here : (w b : ℕ) → digit w b ≡ 1 → digit (bit_xor w (2 ^ b)) b ≡ 0
clear_here w b e = digit_xor w (2 ^ b) b 0 (ap₂ differ e (digit_same b)) (omega arith)

pub clear_other : (w b c : ℕ) → (c ≡ b → ⊥) → digit (bit_xor w (2 ^ b)) c ≡ digit w c
clear_other w b c ne = digit_xor w (2 ^ b) c (digit w c) (ap (differ (digit w c)) (digit_other b c ne) ∙ differ_zero (digit w c)) (omega arith)

abbrev Lowest : ℕ → ℕ → ℕ → Type 0
Lowest k n t = (t < k) × (digit n t ≡ 1)

lowest_step : (k n d : ℕ) → n % 2 ≡ d → n < 2 ^ suc k → 0 < n → (n / 2 < 2 ^ k → 0 < n / 2 → Lowest k (n / 2) (count_trailing_zeros k (n / 2))) → Lowest (suc k) n (under d (count_trailing_zeros k (n / 2)))
lowest_step k n zero e h p ih =
    let t = count_trailing_zeros k (n / 2) in
    let half = shr_below n k 1 (subst (λ (j : ℕ). n < 2 ^ j) (sym (add-one k)) h) in
    let rest = ih half (omega arith) in
    let low = rest.0 in
    (omega arith, ap (λ (x : ℕ). x % 2) (ap (λ (j : ℕ). n / 2 ^ j) (sym (one-add t)) ∙ sym (shr-shr n 1 t)) ∙ rest.1)
lowest_step k n (suc d) e h p ih = (omega arith, ap (λ (x : ℕ). x % 2) (div-one n) ∙ omega arith)

-- the lowest digit that is set
pub lowest : (k n : ℕ) → n < 2 ^ k → 0 < n → Lowest k n (count_trailing_zeros k n)
unfolding count_trailing_zeros
lowest zero n h p = absurd (omega arith)
lowest (suc k) n h p = lowest_step k n (n % 2) refl h p (lowest k (n / 2))
