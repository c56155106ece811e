-- One group of a number: its sum fits 32 bits.
use Rattle.std.proofs.Common.{◌≡◌, ℕ, ◌+◌, ◌*◌, ◌^◌, ◌<◌, ◌≤◌, ◌⊎◌, inl, inr, arith}
use native.Mathlib.Nat.{pow-le-pow_right}
use Rattle.std.proofs.lemmas.Nat.{mul-le}

pub scale_whole : (g m : ℕ) → m ≡ 128 ^ g → g ≤ 4 → m ≤ 2 ^ 28
scale_whole g m e h = let p : 128 ^ g ≤ 128 ^ 4 = pow-le-pow_right (omega arith) h in omega (arith, p)

pub scale_part : (g m : ℕ) → m ≡ 128 ^ g → g < 4 → m ≤ 2 ^ 21
scale_part g m e h = let k : g ≤ 3 = omega arith in let p : 128 ^ g ≤ 128 ^ 3 = pow-le-pow_right (omega arith) k in omega (arith, p)

-- the last group's sum fits
pub last_fits : (g m v b : ℕ) → m ≡ 128 ^ g → v < m → g ≤ 4 → b < 128 → ((g ≡ 4) × (b < 16)) ⊎ (g ≡ 4 → ⊥) → v + m * b < 2 ^ 32
last_fits g m v b e l h k (inl w) = let p = scale_whole g m e h in let q = mul-le m b (2 ^ 28) 15 p (omega (arith, w.1)) in omega arith
last_fits g m v b e l h k (inr w) =
    let n : g < 4 = grind arith in let p = scale_part g m e n in let q = mul-le m b (2 ^ 21) 127 p (omega arith) in omega arith

pub more_fits : (m v b : ℕ) → v < m → b < 128 → v + m * b < m * 128
more_fits m v b l k = let q = mul-le m b m 127 (omega arith) (omega arith) in omega arith
