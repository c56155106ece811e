-- Rows that lie one after another in a workspace. Assumes nothing.
use Rattle.std.specs.Prelude.{◌≡◌, ℕ, ◌*◌, ◌<◌, ◌≤◌, List, length, take, drop, ◌≢◌}
use Rattle.walk.specs.Limits.{width}
use Rattle.walk.specs.Framework.{Framework, nodes}
use Rattle.walk.specs.Solution.{Table}

-- the numbers of row i
abbrev pub row_at : List ℕ → ℕ → List ℕ
row_at xs i = take width (drop (i * width) xs)

-- numbers for one row
abbrev pub OneRow : List ℕ → Type 0
OneRow x = length x ≡ width

-- a workspace has room for a row a node
abbrev pub Room : Framework → List ℕ → Type 0
Room m xs = nodes m * width ≤ length xs

-- what the rows of a workspace mean
abbrev pub table : (m : Framework) → List ℕ → Table m
table m xs = λ i. m.read (row_at xs i)

-- each node's numbers show a row
abbrev pub Shown : Framework → List ℕ → Type 0
Shown m xs = (i : ℕ) → i < nodes m → m.shows (row_at xs i)

-- what lies behind the rows of all nodes
abbrev pub rest : Framework → List ℕ → List ℕ
rest m xs = drop (nodes m * width) xs

-- row k alone was written, and shows x
pub record Written (m : Framework) (k : ℕ) (x : m.Row) (xs xs' : List ℕ) : Type 0 where
  pub shows : m.shows (row_at xs' k)
  pub means : m.read (row_at xs' k) ≡ x
  pub other : (j : ℕ) → (j ≢ k) → row_at xs' j ≡ row_at xs j
  pub behind : rest m xs' ≡ rest m xs
