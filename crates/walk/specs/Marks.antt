-- A set of nodes as the bits of words. Assumes nothing.
use Rattle.std.specs.Prelude.{◌≡◌, ℕ, ◌/◌, ◌%◌, ◌^◌, Bool, List, ◌==◌, ◌≢◌, slice_index}
use Rattle.walk.specs.Limits.{word_bits}

-- the digit of weight 2 ^ b
abbrev pub digit : ℕ → ℕ → ℕ
digit n b = n / 2 ^ b % 2

unfoldable pub marked : List ℕ → ℕ → Bool
marked ws j = digit (slice_index ws (j / word_bits)) (j % word_bits) == 1

-- node k alone changes, to b
pub record Turned (ws : List ℕ) (k : ℕ) (b : Bool) (ws' : List ℕ) : Type 0 where
  pub here : marked ws' k ≡ b
  pub other : (j : ℕ) → (j ≢ k) → marked ws' j ≡ marked ws j
