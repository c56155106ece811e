-- The way up from two classes to the nearest that is above both, step by step. Assumes nothing.
use Rattle.std.proofs.Common.{◌≡◌, ℕ, zero, suc, ◌-◌, ◌<◌, ◌≤◌, refl, arith}
use Rattle.std.proofs.lemmas.Bool.{eq-eqb, ne_eqb, lt-ltb, le-ltb}
use Rattle.jinja.specs.Program.{Program}
use Rattle.jinja.specs.Classes.{superclass_of}
use Rattle.jinja.specs.Join.{meet_within}

pub meet_here : (P : Program) (k c d : ℕ) → c ≡ d → meet_within P k c d ≡ c
meet_here P zero c d e = refl
meet_here P (suc k) c d e = rw (eq-eqb c d e)

pub meet_right : (P : Program) (k c d : ℕ) → 0 < k → c < d → meet_within P k c d ≡ meet_within P (k - 1) c (superclass_of P d)
meet_right P zero c d p l = absurd (omega arith)
meet_right P (suc k) c d p l = let e : suc k - 1 ≡ k = omega arith in rw (ne_eqb c d (omega arith), lt-ltb c d l, e)

pub meet_left : (P : Program) (k c d : ℕ) → 0 < k → (c ≡ d → ⊥) → d ≤ c → meet_within P k c d ≡ meet_within P (k - 1) (superclass_of P c) d
meet_left P zero c d p n l = absurd (omega arith)
meet_left P (suc k) c d p n l = let e : suc k - 1 ≡ k = omega arith in rw (ne_eqb c d n, le-ltb c d l, e)
