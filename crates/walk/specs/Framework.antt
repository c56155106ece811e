-- What an analysis means: a monotone framework, and how rows stand in numbers. Assumes nothing.
use Rattle.std.specs.Prelude.{ℕ, List}
use Rattle.walk.specs.Lattice.{Lattice}
use Rattle.walk.specs.Flow.{Flow, Monotone}

pub record Framework : Type 1 where
  -- what a row means, and which rows are in use
  pub Row : Type 0
  pub good : Row → Type 0
  -- the row of a node that nothing has reached
  pub bottom : Row
  pub join : Row → Row → Row
  -- how often a row can still rise
  pub left : Row → ℕ
  pub lattice : Lattice good bottom join left
  pub flow : Flow Row
  pub monotone : Monotone good bottom join flow
  -- which numbers show a row, and which row they show
  pub shows : List ℕ → Type 0
  pub read : List ℕ → Row

-- how many nodes there are
abbrev pub nodes : Framework → ℕ
nodes m = m.flow.count
