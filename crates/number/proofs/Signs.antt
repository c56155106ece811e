-- Each signed number is that of its number, and each number that of its signed number.
use Rattle.std.proofs.Common.{◌≡◌, ℕ, ◌+◌, ◌*◌, ◌/◌, ◌%◌, ℤ, pos, negsuc, refl, inl, inr, arith}
use Rattle.std.proofs.lemmas.Bool.{cases_eq, eq-eqb, ne_eqb}
use Rattle.number.specs.Signed.{signed, unsigned}

pub signed_unsigned : (z : ℤ) → signed (unsigned z) ≡ z
signed_unsigned (pos n) = let a : (2 * n) % 2 ≡ 0 = omega arith in let b : (2 * n) / 2 ≡ n = omega arith in rw (a, b) refl
signed_unsigned (negsuc n) = let a : (2 * n + 1) % 2 ≡ 1 = omega arith in let b : (2 * n + 1) / 2 ≡ n = omega arith in rw (a, b) refl

pub unsigned_signed : (n : ℕ) → unsigned (signed n) ≡ n
unsigned_signed n = elim (cases_eq (n % 2) 0) [ inl e ↦ rw (eq-eqb (n % 2) 0 e) (omega arith) | inr e ↦ rw (ne_eqb (n % 2) 0 e) (omega arith) ]
