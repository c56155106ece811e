-- How a signed number z stands as a number: as 2z where z ≥ 0, else as -2z - 1.
use Rattle.std.specs.Prelude.{ℕ, ◌+◌, ◌*◌, ◌/◌, ◌%◌, cond, ℤ, pos, negsuc, ◌==◌}

-- negsuc n is -(n + 1), so that -2z - 1 is 2n + 1
abbrev pub unsigned : ℤ → ℕ
unsigned (pos n) = 2 * n
unsigned (negsuc n) = 2 * n + 1

-- the even numbers stand for those from 0 on, the odd ones for those below
abbrev pub signed : ℕ → ℤ
signed n = cond (n % 2 == 0) (pos (n / 2)) (negsuc (n / 2))
