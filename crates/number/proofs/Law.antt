-- What was put is read, and what is read was put.
use Rattle.std.proofs.Common.{◌≡◌, ℕ, zero, suc, ◌+◌, ◌-◌, ◌*◌, ◌/◌, ◌%◌, ◌^◌, ◌<◌, ◌≤◌, false, ltb, List, [], ◌∷◌, ◌++◌, length, drop, Ok, sym, refl, ap, ◌∙◌, inl, inr, mul_assoc, mul_comm, pow-suc, mul-add, arith}
use Rattle.std.proofs.Math.Nat.{one-le-pow}
use Rattle.std.proofs.lemmas.List.{drop_at, drop-drop}
use Rattle.std.proofs.ByRecursion.{All-drop}
use Rattle.std.proofs.lemmas.Nat.{div-add-mod', div_below, div-mul-add, mod-mul-add}
use Rattle.std.proofs.lemmas.Bool.Decides.{nat_tests}
use Rattle.std.proofs.lemmas.Bool.{cases_lt, lt-ltb, le-ltb}
use Rattle.std.specs.List.{AllByRecursion}
use Rattle.number.specs.Numbers.{number_limit, groups, number_at, bytes, bytes_by}
use Rattle.number.specs.Laws.{WrittenIsRead, ReadWasWritten}

-- one group alone
closed : (s g v m at k n : ℕ) (rest : List ℕ) → g + k ≡ 4 → n < 16 * 128 ^ k → n < 128 → (0 < g → 0 < n) → groups s g v m at (n ∷ rest) ≡ Ok (v + m * n, at + 1)
closed s g v m at zero n rest gk small l pos = grind (arith, nat_tests)
closed s g v m at (suc k) n rest gk small l pos = grind (arith, nat_tests)

scaled : (m d r : ℕ) → m * ((128 + r) - 128) + m * 128 * d ≡ m * (d * 128 + r)
scaled m d r =
    let e : (128 + r) - 128 ≡ r = omega arith in
    let f : m * 128 * d ≡ m * (d * 128) = mul_assoc m 128 d ∙ ap (λ x. m * x) (mul_comm 128 d) in
    rw (e, f, mul-add m (d * 128) r) (omega arith)

reads : (s g v m at k n : ℕ) (rest : List ℕ) → g + k ≡ 4 → n < 16 * 128 ^ k → (0 < g → 0 < n)
    → groups s g v m at (bytes_by k n ++ rest) ≡ Ok (v + m * n, at + length (bytes_by k n))
reads s g v m at zero n rest gk small pos = closed s g v m at zero n rest gk small (omega arith) pos
reads s g v m at (suc k) n rest gk small pos = elim (cases_lt n 128) [
  | inl l ↦ rw (lt-ltb n 128 l) (closed s g v m at (suc k) n rest gk small l pos)
  | inr l ↦ rw (le-ltb n 128 l)
      (let d = div-add-mod' n 128 in
      let small' : n / 128 < 16 * 128 ^ k = div_below n 128 (16 * 128 ^ k) (omega arith) (omega (arith, pow-suc 128 k, mul_assoc 16 (128 ^ k) 128)) in
      let t = reads s (g + 1) (v + m * ((128 + n % 128) - 128)) (m * 128) (at + 1) k (n / 128) rest (omega arith) small' (λ _. omega arith) in
      let w = scaled m (n / 128) (n % 128) in
      let w' = ap (λ x. m * x) d in
      grind (arith, nat_tests))
]

-- the number whose bytes stand at p
pub number_reads : (file : List ℕ) (p n : ℕ) (rest : List ℕ) → n < number_limit → drop p file ≡ bytes n ++ rest → number_at file p ≡ Ok (n, p + length (bytes n))
unfolding number_at bytes
number_reads file p n rest h e =
    ap (groups p 0 0 1 p) e ∙ (reads p 0 0 1 p 4 n rest refl (omega arith) (λ z. omega arith) ∙ (let e : 0 + 1 * n ≡ n = omega arith in rw e refl))

pub written : WrittenIsRead
written n before after h = number_reads (before ++ (bytes n ++ after)) (length before) n after h (drop_at before (bytes n ++ after) (length before) refl)

-- what reading the groups bs says of them
record Behind (g v m at x q : ℕ) (bs : List ℕ) : Type 0 where
  k : ℕ
  n : ℕ
  rest : List ℕ
  turns : g + k ≡ 4
  small : n < 16 * 128 ^ k
  pos : 0 < g → 0 < n
  value : x ≡ v + m * n
  split : bs ≡ bytes_by k n ++ rest
  place : q ≡ at + length (bytes_by k n)

-- a group in front
more : (g v m at x q b : ℕ) (bs : List ℕ) → 128 ≤ b → b < 256 → Behind (g + 1) (v + m * (b - 128)) (m * 128) (at + 1) x q bs → Behind g v m at x q (b ∷ bs)
more g v m at x q b bs low high w =
    let d = w.n in
    let n : ℕ = w.n * 128 + (b - 128) in
    let div : n / 128 ≡ w.n = div-mul-add w.n 128 (b - 128) (omega arith) in
    let rem : n % 128 ≡ b - 128 = mod-mul-add w.n 128 (b - 128) (omega arith) in
    let pos = w.pos (omega arith) in
    let t : ltb n 128 ≡ false = le-ltb n 128 (omega arith) in
    let back : 128 + (b - 128) ≡ b = omega arith in
    record {
      k = suc w.k;
      n = n;
      rest = w.rest;
      turns = omega (arith, w.turns);
      small = omega (arith, w.small, pow-suc 128 w.k);
      pos = λ _. omega arith;
      value = (let e = scaled m w.n (b - 128) in let f : (128 + (b - 128)) - 128 ≡ b - 128 = omega arith in let e' = rw f at e in omega (arith, e', w.value));
      split = rw (t, rem, div, back) (ap (λ l. b ∷ l) w.split);
      place = rw (t, div) (omega (arith, w.place));
    }

one : (g v m at x q b k : ℕ) (bs : List ℕ) → g + k ≡ 4 → b < 128 → (g ≡ 4 → b < 16) → (0 < g → 0 < b) → x ≡ v + m * b → q ≡ at + 1 → Behind g v m at x q (b ∷ bs)
one g v m at x q b zero bs gk l top pos e f = record { k = zero; n = b; rest = bs; turns = gk; small = omega (arith, top (omega arith)); pos = pos; value = e; split = refl; place = f }
one g v m at x q b (suc k) bs gk l top pos e f =
    let t = lt-ltb b 128 l in
    record { k = suc k; n = b; rest = bs; turns = gk; small = omega (arith, pow-suc 128 k, one-le-pow k 128 (omega arith)); pos = pos; value = e; split = rw t refl; place = rw t f }

wrote : (s g v m at x q : ℕ) (bs : List ℕ) → g ≤ 4 → AllByRecursion (λ b. b < 256) bs → groups s g v m at bs ≡ Ok (x, q) → Behind g v m at x q bs
wrote s g v m at x q [] h small e = absurd (let z : ◌≡◌ {A = ℕ} 0 1 = cc in omega arith)
wrote s g v m at x q (b ∷ bs) h small e = elim (cases_lt b 128) [
  | inl l ↦ one g v m at x q b (4 - g) bs (omega arith) l (λ t. grind (arith, nat_tests)) (λ t. grind (arith, nat_tests)) (grind (arith, nat_tests)) (grind (arith, nat_tests))
  | inr l ↦
      (let below : g < 4 = grind (arith, nat_tests) in
      let t : groups s (g + 1) (v + m * (b - 128)) (m * 128) (at + 1) bs ≡ Ok (x, q) = grind (arith, nat_tests) in
      let w = wrote s (g + 1) (v + m * (b - 128)) (m * 128) (at + 1) x q bs (omega arith) small.1 t in
      more g v m at x q b bs l small.0 w)
]

pub behind : (file : List ℕ) (p : ℕ) (front rest : List ℕ) → drop p file ≡ front ++ rest → rest ≡ drop (p + length front) file
behind file p front rest e = sym (sym (drop-drop (length front) p file) ∙ (ap (drop (length front)) e ∙ drop_at front rest (length front) refl))

pub read : ReadWasWritten
unfolding number_at bytes
read file p n q small e =
    let w = wrote p 0 0 1 p n q (drop p file) (omega arith) (All-drop (λ b. b < 256) p file small) e in
    let four : w.k ≡ 4 = omega (arith, w.turns) in
    let same : w.n ≡ n = omega (arith, w.value) in
    let s : drop p file ≡ bytes_by 4 n ++ w.rest = rw (four, same) at w.split in
    let l : q ≡ p + length (bytes_by 4 n) = rw (four, same) at w.place in
    let b : w.rest ≡ drop q file = behind file p (bytes_by 4 n) w.rest s ∙ ap (λ x. drop x file) (sym l) in
    let low : n < 16 * 128 ^ 4 = rw (four, same) at w.small in
    (low, rw b at s, l)
