-- Nodes that send rows to one another. Assumes nothing.
use Rattle.std.specs.Prelude.{◌≡◌, ℕ, ◌<◌, ◌≤◌, Bool, false}
use Rattle.walk.specs.Limits.{most_nodes}
use Rattle.walk.specs.Lattice.{Le}

-- what an edge carries: nothing, or a row to a node
pub data Sent (R : Type 0) : Type 0 where
  nothing : Sent R
  sent : ℕ → R → Sent R

-- Nodes 0 to count - 1. The row `start` comes to node 0. Node i refuses a row that its needs do not allow; what its
-- edge e sends depends on its row.
pub record Flow (R : Type 0) : Type 0 where
  pub count : ℕ
  pub start : R
  pub refused : ℕ → R → Bool
  pub edges : ℕ → ℕ
  pub sends : ℕ → ℕ → R → Sent R

-- what one row sends lies below what another sends: the same node gets a lower row, or nothing
pub data Below {R : Type 0} (join : R → R → R) : Sent R → Sent R → Type 0 where
  nothing_below : {s : Sent R} → Below join nothing s
  row_below : {k : ℕ} {x y : R} → Le join x y → Below join (sent k x) (sent k y)

-- what is sent is a row in use, to a node that there is
pub data Lawful {R : Type 0} (good : R → Type 0) (n : ℕ) : Sent R → Type 0 where
  nothing_lawful : Lawful good n nothing
  row_lawful : {k : ℕ} {x : R} → k < n → good x → Lawful good n (sent k x)

-- What an analysis shows of its nodes: a node takes what lies below a row that it takes, and sends less from it. A
-- node that nothing has reached is content and silent.
pub record Monotone {R : Type 0} (good : R → Type 0) (bottom : R) (join : R → R → R) (flow : Flow R) : Type 0 where
  pub few : flow.count ≤ most_nodes
  pub good_start : good flow.start
  pub content : (i : ℕ) → i < flow.count → flow.refused i bottom ≡ false
  pub silent : (i e : ℕ) → i < flow.count → e < flow.edges i → flow.sends i e bottom ≡ nothing
  pub taken : (i : ℕ) (x y : R) → i < flow.count → good x → good y → Le join x y → flow.refused i y ≡ false → flow.refused i x ≡ false
  pub lawful : (i e : ℕ) (x : R) → i < flow.count → e < flow.edges i → good x → flow.refused i x ≡ false → Lawful good flow.count (flow.sends i e x)
  pub less : (i e : ℕ) (x y : R) → i < flow.count → e < flow.edges i → good x → good y → Le join x y → flow.refused i y ≡ false → Below join (flow.sends i e x) (flow.sends i e y)
