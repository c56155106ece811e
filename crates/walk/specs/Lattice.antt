-- Rows with a join. Assumes nothing.
use Rattle.std.specs.Prelude.{◌≡◌, ℕ, ◌<◌, ◌≢◌}

-- x lies below y
abbrev pub Le : {R : Type 0} → (R → R → R) → R → R → Type 0
Le join x y = join x y ≡ y

-- What an analysis shows of its rows: `good` says which rows are in use, `bottom` is the row of a node that nothing
-- has reached, and `left` bounds how often a row can still rise.
pub record Lattice {R : Type 0} (good : R → Type 0) (bottom : R) (join : R → R → R) (left : R → ℕ) : Type 0 where
  pub good_bottom : good bottom
  pub good_join : (x y : R) → good x → good y → good (join x y)
  pub lowest : (x : R) → good x → Le join bottom x
  pub idem : (x : R) → good x → join x x ≡ x
  pub comm : (x y : R) → good x → good y → join x y ≡ join y x
  pub assoc : (x y z : R) → good x → good y → good z → join (join x y) z ≡ join x (join y z)
  pub rises : (x y : R) → good x → good y → (join x y ≢ x) → left (join x y) < left x
