-- The limits of a walk. Assumes nothing.
use Rattle.std.specs.Prelude.{ℕ}

-- how many numbers a row has
abbrev pub width : ℕ
width = 33

-- how many nodes there may be
abbrev pub most_nodes : ℕ
most_nodes = 256

-- how many nodes a word marks, and how many words mark all
abbrev pub word_bits : ℕ
word_bits = 64

abbrev pub all_words : ℕ
all_words = 4
