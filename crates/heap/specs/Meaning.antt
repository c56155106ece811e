-- A heap's meaning: its objects, each at the address that is its position, and its charge lines.
use Rattle.std.specs.Prelude.{ℕ, ◌+◌, ◌*◌, Bool, true, ◌&&◌, List, [], ◌∷◌, length, sum_by, nat_le}
use Rattle.heap.specs.declared.value.Value.{Value}
use Rattle.heap.specs.declared.charge.ChargeLine.{ChargeLine}
pub use Rattle.heap.specs.Limits.{row_limit}

pub record Object : Type 0 where
  pub class : ℕ
  pub row : List Value

pub record Meaning : Type 0 where
  pub objects : List Object
  pub lines : List ChargeLine

-- what an object of n fields costs on a line
abbrev pub cost : ChargeLine → ℕ → ℕ
cost l n = l.fixed + l.per_field * n

-- a line's use: what the objects cost on it together
abbrev pub used : ChargeLine → List Object → ℕ
used l os = sum_by (λ o. cost l (length o.row)) os

-- with one more object of n fields, no line's use passes its total
abbrev pub has_room : List ChargeLine → List Object → ℕ → Bool
has_room [] os n = true
has_room (l ∷ ls) os n = nat_le (used l os + cost l n) l.total && has_room ls os n

-- whether one more row of n values is taken
abbrev pub admits : Meaning → ℕ → Bool
admits m n = nat_le n row_limit && has_room m.lines m.objects n
