-- Counts of a file whose limit depends on what stands before them.
use Rattle.std.specs.Prelude.{ℕ, ◌+◌, List, Ok, nat_le, nat_lt}
use Rattle.format.specs.Rules.{code_keeps}
use Rattle.format.specs.Reading.{Read, then, checked, any_at}
use Rattle.format.specs.declared.fault.TableFault.TheVariants.{Outside, Classless}

-- so many that there are at most `most` with the `used` ones
abbrev pub more_at : List ℕ → ℕ → ℕ → ℕ → Read ℕ
more_at file used most p = then (any_at file p) (λ k q. checked (nat_le (used + k) most) (Outside p) (Ok (k, q)))

-- the length of a method's code
abbrev pub code_count_at : List ℕ → ℕ → ℕ → Read ℕ
code_count_at file used p = then (any_at file p) (λ k q. checked (code_keeps used k) (Outside p) (Ok (k, q)))

-- the number of a superclass, one of the first k classes
abbrev pub below_at : List ℕ → ℕ → ℕ → Read ℕ
below_at file k p = then (any_at file p) (λ s q. checked (nat_lt s k) (Classless p) (Ok (s, q)))
