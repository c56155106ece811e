-- The bytes of a number, group by group.
use Rattle.std.proofs.Common.{◌≡◌, ℕ, zero, suc, ◌+◌, ◌*◌, ◌/◌, ◌%◌, ◌^◌, ◌<◌, ◌≤◌, List, [], ◌∷◌, ◌++◌, sym, refl, ap, ◌∙◌, pow-suc, arith}
use Rattle.std.proofs.lemmas.Nat.{div_below}
use Rattle.std.proofs.lemmas.List.{append_assoc}
use Rattle.std.proofs.lemmas.Bool.{lt-ltb, le-ltb}
use Rattle.number.specs.Numbers.{bytes_by}

-- a first group with more behind it
first_group : (k n : ℕ) → 128 ≤ n → n < 16 * 128 ^ k → (j : ℕ) × (bytes_by k n ≡ (n % 128 + 128) ∷ bytes_by j (n / 128)) × (n / 128 < 16 * 128 ^ j)
first_group zero n h l = absurd (omega arith)
first_group (suc j) n h l =
    let e : 128 + n % 128 ≡ n % 128 + 128 = omega arith in
    (j, rw (le-ltb n 128 h, e) refl, div_below n 128 (16 * 128 ^ j) (omega arith) (omega (arith, pow-suc 128 j)))

-- the last group
last_group : (k n : ℕ) → n < 128 → bytes_by k n ≡ n ∷ []
last_group zero n h = refl
last_group (suc k) n h = rw (lt-ltb n 128 h) refl

-- the bytes `all`, of which `done` are put, and those of n are left
pub step_bytes : (done all : List ℕ) (k n : ℕ) → 128 ≤ n → n < 16 * 128 ^ k → done ++ bytes_by k n ≡ all → (j : ℕ) × ((done ++ (n % 128 + 128) ∷ []) ++ bytes_by j (n / 128) ≡ all) × (n / 128 < 16 * 128 ^ j)
step_bytes done all k n h l e =
    let g = first_group k n h l in
    (g.0, append_assoc done ((n % 128 + 128) ∷ []) (bytes_by g.0 (n / 128)) ∙ (ap (λ x. done ++ x) (sym g.1) ∙ e), g.2)

pub last_bytes : (done all : List ℕ) (k n : ℕ) → n < 128 → done ++ bytes_by k n ≡ all → done ++ n ∷ [] ≡ all
last_bytes done all k n h e = ap (λ x. done ++ x) (sym (last_group k n h)) ∙ e
