-- What a walk keeps true from node to node, and how much it has left to do. Assumes nothing.
use Rattle.std.specs.Prelude.{◌≡◌, ℕ, zero, suc, ◌+◌, ◌*◌, ◌<◌, ◌≤◌, Bool, true, false, List, ◌⊎◌, ◌≢◌}
use Rattle.walk.specs.Lattice.{Le}
use Rattle.walk.specs.Framework.{Framework, nodes}
use Rattle.walk.specs.Solution.{Table, Lands, Solution}
use Rattle.walk.specs.Rows.{table, Shown}

-- a set of nodes
abbrev pub Nodes : Type 0
Nodes = ℕ → Bool

unfoldable pub weigh : Bool → ℕ
weigh true = 1
weigh false = 0

-- the sum of f 0 .. f (n - 1)
unfoldable pub sum_to : ℕ → (ℕ → ℕ) → ℕ
sum_to zero f = 0
sum_to (suc n) f = f n + sum_to n f

-- how much is left to do: each rise of a row outweighs all marks
unfoldable pub weight : (m : Framework) → Table m → Nodes → ℕ
weight m T d = sum_to (nodes m) (λ j. m.left (T j)) * (nodes m + 1) + sum_to (nodes m) (λ j. weigh (d j))

-- at first node 0 alone is reached
pub record Begun (m : Framework) (T : Table m) : Type 0 where
  pub first : 0 < nodes m → T 0 ≡ m.flow.start
  pub others : (j : ℕ) → 0 < j → j < nodes m → T j ≡ m.bottom

-- row k took in the row x, and node k is marked where that changed it
pub record Raised (m : Framework) (k : ℕ) (x : m.Row) (T : Table m) (d : Nodes) (T' : Table m) (d' : Nodes) : Type 0 where
  pub here : T' k ≡ m.join (T k) x
  pub other : (j : ℕ) → (j ≢ k) → T' j ≡ T j
  pub others : (j : ℕ) → (j ≢ k) → d' j ≡ d j
  pub told : ((d' k ≡ true) × (T' k ≢ T k)) ⊎ ((d' k ≡ d k) × (T' k ≡ T k))

-- what holds of the rows throughout: they lie between the start and every solution
pub record Held (m : Framework) (T : Table m) : Type 0 where
  pub goods : (i : ℕ) → i < nodes m → m.good (T i)
  pub start : 0 < nodes m → Le m.join m.flow.start (T 0)
  pub under : (U : Table m) → Solution m U → (i : ℕ) → i < nodes m → Le m.join (T i) (U i)

-- node j takes its row, and what its edges send lands; the edges are those that `upto` names
abbrev pub SettledAt : (m : Framework) → Table m → ℕ → (ℕ → Type 0) → Type 0
SettledAt m T j upto = (m.flow.refused j (T j) ≡ false) × ((f : ℕ) → f < m.flow.edges j → upto f → Lands m T (m.flow.sends j f (T j)))

-- each node that is not marked is settled, node i up to its edge e
abbrev pub Settled : (m : Framework) → Nodes → ℕ → ℕ → Table m → Type 0
Settled m d i e T = (j : ℕ) → j < nodes m → d j ≡ false → SettledAt m T j (λ f. j ≡ i → f < e)

abbrev pub AllSettled : (m : Framework) → Nodes → Table m → Type 0
AllSettled m d T = (j : ℕ) → j < nodes m → d j ≡ false → SettledAt m T j (λ _. Unit {0})

-- only nodes are marked
abbrev pub Inside : Framework → Nodes → Type 0
Inside m d = (j : ℕ) → d j ≡ true → j < nodes m

-- how a walk stands: each node's numbers show a row, the rows are those between the start and every solution, and only
-- nodes are marked
pub record Underway (m : Framework) (xs : List ℕ) (d : Nodes) : Type 0 where
  pub shown : Shown m xs
  pub held : Held m (table m xs)
  pub inside : Inside m d

-- what the walk keeps while it takes the edges of node i, those below e
pub record Midway (m : Framework) (i e : ℕ) (T₀ : Table m) (d₀ : Nodes) (T : Table m) (d : Nodes) : Type 0 where
  pub held : Held m T
  pub settled : Settled m d i e T
  pub inside : Inside m d
  pub less : weight m T d ≤ weight m T₀ d₀

-- the edges of a node were taken
pub record NodeDone (m : Framework) (T₀ : Table m) (d₀ : Nodes) (T : Table m) (d : Nodes) : Type 0 where
  pub held : Held m T
  pub settled : AllSettled m d T
  pub inside : Inside m d
  pub less : weight m T d ≤ weight m T₀ d₀
