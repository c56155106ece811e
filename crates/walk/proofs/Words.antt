-- Sets of nodes in words: one node turned, none at all, and one found. Assumes nothing.
use Rattle.std.proofs.Common.{◌≡◌, ℕ, ◌+◌, ◌*◌, ◌/◌, ◌%◌, ◌^◌, ◌<◌, Bool, true, false, eqb, List, length, get_or, set, sym, ap, ◌∙◌, ⊎_elim, arith}
use native.Mathlib.Nat.{zero-div}
use lib.Bits.{bit_or, bit_xor}
use lib.Count.{count_trailing_zeros}
use Rattle.std.proofs.lemmas.List.{get_or-set_same, get_or-set_other, get_or_past}
use Rattle.std.proofs.lemmas.Bool.{cases_eq, cases_lt, eqb-true}
use Rattle.walk.specs.Limits.{word_bits}
use Rattle.walk.specs.Marks.{digit, marked, Turned}
use Rattle.walk.proofs.Digits.{set_here, set_other, clear_here, clear_other, lowest}

-- one digit of one word turned
turned : (ws : List ℕ) (k : ℕ) (b : Bool) (v : ℕ) → k / word_bits < length ws → eqb (digit v (k % word_bits)) 1 ≡ b → ((c : ℕ) → (c ≡ k % word_bits → ⊥) → digit v c ≡ digit (get_or ws (k / word_bits) 0) c) → Turned ws k b (set ws (k / word_bits) v)
unfolding marked
turned ws k b v l e same = record {
  here = ap (λ (w : ℕ). eqb (digit w (k % word_bits)) 1) (get_or-set_same ws (k / word_bits) v 0 l) ∙ e;
  other = λ j ne. ⊎_elim
      (λ (p : j / word_bits ≡ k / word_bits).
      ap (λ (n : ℕ). eqb (digit (get_or (set ws (k / word_bits) v) n 0) (j % word_bits)) 1) p
      ∙ ap (λ (w : ℕ). eqb (digit w (j % word_bits)) 1) (get_or-set_same ws (k / word_bits) v 0 l)
      ∙ ap (λ (n : ℕ). eqb n 1) (same (j % word_bits) (λ q. ne (omega arith)))
      ∙ ap (λ (n : ℕ). eqb (digit (get_or ws n 0) (j % word_bits)) 1) (sym p))
      (λ (p : j / word_bits ≡ k / word_bits → ⊥). ap (λ (w : ℕ). eqb (digit w (j % word_bits)) 1) (get_or-set_other ws (k / word_bits) (j / word_bits) v 0 p))
      (cases_eq (j / word_bits) (k / word_bits));
}

pub turned_on : (ws : List ℕ) (k : ℕ) → k / word_bits < length ws → Turned ws k true (set ws (k / word_bits) (bit_or (get_or ws (k / word_bits) 0) (2 ^ (k % word_bits))))
turned_on ws k l =
    let w = get_or ws (k / word_bits) 0 in
    turned ws k true (bit_or w (2 ^ (k % word_bits))) l (ap (λ (n : ℕ). eqb n 1) (set_here w (k % word_bits))) (λ c ne. set_other w (k % word_bits) c ne)

pub turned_off : (ws : List ℕ) (k : ℕ) → k / word_bits < length ws → marked ws k ≡ true → Turned ws k false (set ws (k / word_bits) (bit_xor (get_or ws (k / word_bits) 0) (2 ^ (k % word_bits))))
unfolding marked
turned_off ws k l e =
    let w = get_or ws (k / word_bits) 0 in
    turned ws k false (bit_xor w (2 ^ (k % word_bits))) l (ap (λ (n : ℕ). eqb n 1) (clear_here w (k % word_bits) (eqb-true (digit w (k % word_bits)) 1 e))) (λ c ne. clear_other w (k % word_bits) c ne)

-- every word is 0: no node is marked
pub none_marked : (ws : List ℕ) → ((v : ℕ) → v < length ws → get_or ws v 0 ≡ 0) → (j : ℕ) → marked ws j ≡ false
unfolding marked
none_marked ws zeros j =
    let at : get_or ws (j / word_bits) 0 ≡ 0 = ⊎_elim (zeros (j / word_bits)) (get_or_past ws (j / word_bits) 0) (cases_lt (j / word_bits) (length ws)) in
    ap (λ (w : ℕ). eqb (digit w (j % word_bits)) 1) at ∙ ap (λ (n : ℕ). eqb (n % 2) 1) (zero-div (2 ^ (j % word_bits)))

-- the lowest digit of a word that is not 0 marks a node
pub found_marked : (ws : List ℕ) (w : ℕ) → get_or ws w 0 < 2 ^ word_bits → 0 < get_or ws w 0 → marked ws (w * word_bits + count_trailing_zeros word_bits (get_or ws w 0)) ≡ true
unfolding marked
found_marked ws w l p =
    let word = get_or ws w 0 in
    let low = lowest word_bits word l p in
    let t = count_trailing_zeros word_bits word in
    let lt = low.0 in
    let a : (w * word_bits + t) / word_bits ≡ w = omega arith in
    let b : (w * word_bits + t) % word_bits ≡ t = omega arith in
    ap (λ (n : ℕ). eqb (digit (get_or ws n 0) ((w * word_bits + t) % word_bits)) 1) a ∙ ap (λ (n : ℕ). eqb (digit word n) 1) b ∙ ap (λ (n : ℕ). eqb n 1) low.1
