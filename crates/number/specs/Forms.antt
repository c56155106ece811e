-- What it means that a number stands in a file, and what can be wrong with one: no word of how numbers are read.
use Rattle.std.specs.Prelude.{◌≡◌, ℕ, ◌+◌, ◌-◌, ◌*◌, ◌<◌, ◌≤◌, List, [], ◌∷◌, ◌++◌, length, drop}
use Rattle.std.specs.List.{AllByRecursion}
use Rattle.number.specs.Numbers.{number_limit, most_groups, top_limit}
use Rattle.number.specs.declared.fault.NumberFault.{NumberFault}
use Rattle.number.specs.declared.fault.NumberFault.TheVariants.{Cut, Padded, Oversize}

-- the bytes bs are groups of n: seven bits each, lowest first, 128 added to all but the last
pub data Form : ℕ → List ℕ → Type 0 where
  last : {n : ℕ} → n < 128 → Form n (n ∷ [])
  more : {n m b : ℕ} {bs : List ℕ} → 128 ≤ b → b < 256 → n ≡ (b - 128) + 128 * m → Form m bs → Form n (b ∷ bs)

pub record Shortest (n : ℕ) (bs : List ℕ) : Type 0 where
  pub form : Form n bs
  pub least : (cs : List ℕ) → Form n cs → length bs ≤ length cs

-- n stands in the file from place p up to place q
pub record Stands (file : List ℕ) (p n q : ℕ) : Type 0 where
  pub groups : List ℕ
  pub shortest : Shortest n groups
  pub below : n < number_limit
  pub here : drop p file ≡ groups ++ drop q file
  pub behind : q ≡ p + length groups

-- a byte with more groups behind it
abbrev pub Carries : ℕ → Type 0
Carries b = 128 ≤ b

-- what is wrong with a number that begins at place p, where the file's bytes are bs
pub data Wrong (p : ℕ) (bs : List ℕ) : NumberFault → Type 0 where
  -- the file ends, and more groups were to come
  cut : length bs < most_groups → AllByRecursion Carries bs → Wrong p bs (Cut p)
  -- a number stands there in more groups than it needs
  padded : (n : ℕ) (groups rest : List ℕ) → bs ≡ groups ++ rest → length groups ≤ most_groups → Form n groups → (Shortest n groups → ⊥) → Wrong p bs (Padded p)
  -- the fifth byte says more than the four bits that are left of 32
  oversize : (front rest : List ℕ) (b : ℕ) → bs ≡ front ++ b ∷ rest → length front ≡ most_groups - 1 → AllByRecursion Carries front → top_limit ≤ b → Wrong p bs (Oversize p)
