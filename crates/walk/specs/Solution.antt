-- Solutions of a framework, and the least of them. Assumes nothing.
use Rattle.std.specs.Prelude.{◌≡◌, ℕ, ◌<◌, false}
use Rattle.walk.specs.Lattice.{Le}
use Rattle.walk.specs.Flow.{Sent, nothing, sent}
use Rattle.walk.specs.Framework.{Framework, nodes}

-- a table gives each node a row
abbrev pub Table : Framework → Type 0
Table m = ℕ → m.Row

-- what is sent lies below the row of the node that it is sent to
pub data Lands (m : Framework) (T : Table m) : Sent m.Row → Type 0 where
  nothing_lands : Lands m T nothing
  row_lands : {k : ℕ} {x : m.Row} → Le m.join x (T k) → Lands m T (sent k x)

-- each row is in use, the row at node 0 lies above the start, no node refuses its row, and what a node sends lands
pub record Solution (m : Framework) (T : Table m) : Type 0 where
  pub goods : (i : ℕ) → i < nodes m → m.good (T i)
  pub start : 0 < nodes m → Le m.join m.flow.start (T 0)
  pub taken : (i : ℕ) → i < nodes m → m.flow.refused i (T i) ≡ false
  pub lands : (i e : ℕ) → i < nodes m → e < m.flow.edges i → Lands m T (m.flow.sends i e (T i))

-- a solution that lies below every other
pub record Least (m : Framework) (T : Table m) : Type 0 where
  pub solution : Solution m T
  pub least : (U : Table m) → Solution m U → (i : ℕ) → i < nodes m → Le m.join (T i) (U i)

-- there is no solution
abbrev pub Unsolvable : Framework → Type 0
Unsolvable m = (T : Table m) → Solution m T → ⊥
