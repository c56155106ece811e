-- The bytes of a number are its shortest form, and the only one.
use Rattle.std.proofs.Common.{◌≡◌, ℕ, zero, suc, ◌+◌, ◌*◌, ◌/◌, ◌%◌, ◌^◌, ◌<◌, ◌≤◌, List, length, refl, subst, inl, inr, pow-suc, arith}
use Rattle.std.proofs.lemmas.Nat.{div-add-mod', div_below}
use Rattle.std.proofs.lemmas.Bool.{cases_lt, lt-ltb, le-ltb}
use Rattle.number.specs.Numbers.{number_limit, bytes, bytes_by}
use Rattle.number.specs.Forms.{Form, last, more, Shortest}

form_bytes_by : (k n : ℕ) → n < 16 * 128 ^ k → Form n (bytes_by k n)
form_bytes_by zero n h = last (omega arith)
form_bytes_by (suc k) n h = elim (cases_lt n 128) [
  | inl l ↦ rw (lt-ltb n 128 l) (last l)
  | inr l ↦ rw (le-ltb n 128 l)
      (let d = div-add-mod' n 128 in
      let small = div_below n 128 (16 * 128 ^ k) (omega arith) (omega (arith, pow-suc 128 k)) in
      more {n = n} {m = n / 128} {b = 128 + n % 128} (omega arith) (omega arith) (omega arith) (form_bytes_by k (n / 128) small))
]

some_group : {n : ℕ} {bs : List ℕ} → Form n bs → 0 < length bs
some_group (last l) = omega arith
some_group (more low high e f) = omega arith

least_bytes_by : (k : ℕ) {n : ℕ} {cs : List ℕ} → Form n cs → length (bytes_by k n) ≤ length cs
least_bytes_by zero f = some_group f
least_bytes_by (suc k) (last {n} l) = rw (lt-ltb n 128 l) (omega arith)
least_bytes_by (suc k) (more {n} {m} {b} {bs} low high e f) = elim (cases_lt n 128) [
  | inl l ↦ rw (lt-ltb n 128 l) (omega arith)
  | inr l ↦ rw (le-ltb n 128 l)
      (let d : n / 128 ≡ m = omega arith in
      let i = least_bytes_by k f in
      rw d (omega (arith, i)))
]

same_form : {n : ℕ} {bs cs : List ℕ} → Form n bs → Form n cs → length bs ≡ length cs → bs ≡ cs
same_form (last l) (last k) e = refl
same_form (last l) (more low high d g) e = absurd (omega (arith, some_group g))
same_form (more low high d f) (last k) e = absurd (omega (arith, some_group f))
same_form (more {n} {m} {b} {bs} low high d f) (more {m = m'} {b = c} {bs = cs} low' high' d' g) e =
    let heads : b ≡ c = omega arith in
    let rests : m' ≡ m = omega arith in
    let tails : bs ≡ cs = same_form f (subst (λ k. Form k cs) rests g) (omega arith) in
    cc

pub shortest_bytes : (n : ℕ) → n < number_limit → Shortest n (bytes n)
unfolding bytes
shortest_bytes n h = record { form = form_bytes_by 4 n (omega arith); least = λ cs f. least_bytes_by 4 f }

pub shortest_same : (n : ℕ) (bs : List ℕ) → n < number_limit → Shortest n bs → bs ≡ bytes n
shortest_same n bs h w =
    let v = shortest_bytes n h in
    let a = w.least (bytes n) v.form in
    let b = v.least bs w.form in
    same_form w.form v.form (omega arith)
