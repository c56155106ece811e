-- The number of a history's only refusal.
use Rattle.std.specs.Prelude.{ℕ}

-- there are fewer places for replies than calls
abbrev pub short_number : ℕ
short_number = 10
