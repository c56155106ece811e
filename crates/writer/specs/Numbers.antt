-- The bytes of numbers that stand one behind the other.
use Rattle.std.specs.Prelude.{ℕ, List, [], ◌∷◌, ◌++◌}
use Rattle.number.specs.Numbers.{bytes}

abbrev pub in_a_row : List ℕ → List ℕ
in_a_row [] = []
in_a_row (n ∷ []) = bytes n
in_a_row (n ∷ (m ∷ ns)) = bytes n ++ in_a_row (m ∷ ns)
