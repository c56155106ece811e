-- What holds of every state of every heap.
use Rattle.std.specs.Prelude.{ℕ, ◌+◌, ◌*◌, ◌<◌, ◌≤◌, List, ◌∷◌, length}
use Rattle.std.specs.List.{AllByRecursion}
use Rattle.heap.specs.declared.charge.ChargeLine.{ChargeLine}
use Rattle.heap.specs.Meaning.{Meaning, row_limit}
pub use Rattle.heap.specs.Limits.{word_limit}

pub record SmallLine (l : ChargeLine) : Type 0 where
  pub fixed : l.fixed ≤ word_limit
  pub per_field : l.per_field ≤ word_limit
  pub total : l.total ≤ word_limit

-- some line charges every object
pub data Charged : List ChargeLine → Type 0 where
  here : {l : ChargeLine} {ls : List ChargeLine} → 0 < l.fixed → Charged (l ∷ ls)
  below : {l : ChargeLine} {ls : List ChargeLine} → Charged ls → Charged (l ∷ ls)

pub record LawfulLines (ls : List ChargeLine) : Type 0 where
  pub small : AllByRecursion SmallLine ls
  pub charged : Charged ls

-- what every state of every heap has
pub record Lawful (m : Meaning) : Type 0 where
  pub few : length m.objects ≤ word_limit
  pub short : AllByRecursion (λ o. length o.row ≤ row_limit) m.objects
  pub lines : LawfulLines m.lines

-- what one object costs at most
abbrev pub cost_limit : ℕ
cost_limit = word_limit + word_limit * row_limit
