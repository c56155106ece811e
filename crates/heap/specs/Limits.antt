-- The limits of heaps, each in one place.
use Rattle.std.specs.Prelude.{ℕ}

-- the most values that a row has
abbrev pub row_limit : ℕ
row_limit = 8

-- the greatest number of a charge line, and the greatest count of objects: 16 bits hold every address
abbrev pub word_limit : ℕ
word_limit = 65535
