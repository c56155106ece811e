-- Cells joined as numbers, pair by pair, and when a row is the same as before. Assumes nothing.
use Rattle.std.specs.Prelude.{◌≡◌, ℕ, Bool, List, [], ◌∷◌, take, drop, ◌==◌}
use Rattle.std.specs.List.{list_any}
use Rattle.jinja.specs.Program.{Program}
use Rattle.jinja.specs.Join.{join_cell}
use Rattle.type_rows.specs.Numbers.{absent, cell_number, cell_of_number}

abbrev pub join_number : Program → ℕ → ℕ → ℕ
join_number P a b = cell_number (join_cell P (cell_of_number a) (cell_of_number b))

-- as many as both have
abbrev pub join_numbers : Program → List ℕ → List ℕ → List ℕ
join_numbers P [] ys = []
join_numbers P (x ∷ xs) [] = []
join_numbers P (x ∷ xs) (y ∷ ys) = join_number P x y ∷ join_numbers P xs ys

abbrev pub has_absent : List ℕ → Bool
has_absent xs = list_any (λ x. x == absent) xs

-- two rows of height h show the same numbers where there are n registers
pub record SameNumbers (h n : ℕ) (xs ys : List ℕ) : Type 0 where
  pub stack : take h (drop 1 xs) ≡ take h (drop 1 ys)
  pub registers : take n (drop 17 xs) ≡ take n (drop 17 ys)
