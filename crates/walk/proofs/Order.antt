-- Joins are least upper bounds, and what that says of rows that are sent. Assumes nothing.
use Rattle.std.proofs.Common.{ℕ, ◌<◌, sym, ap, ◌∙◌}
use Rattle.walk.specs.Lattice.{Le}
use Rattle.walk.specs.Flow.{Sent, sent, Below, row_below, Lawful, nothing_lawful, row_lawful}
use Rattle.walk.specs.Framework.{Framework, nodes}
use Rattle.walk.specs.Solution.{Table, Lands, nothing_lands, row_lands}

-- a row that is sent goes to a node that there is, and is in use
pub sent_inside : {R : Type 0} {good : R → Type 0} {n k : ℕ} {x : R} → Lawful good n (sent k x) → k < n
sent_inside (row_lawful l g) = l

pub sent_good : {R : Type 0} {good : R → Type 0} {n k : ℕ} {x : R} → Lawful good n (sent k x) → good x
sent_good (row_lawful l g) = g

module _ (m : Framework) where
  abbrev R : Type 0
  R = m.Row

  abbrev join : R → R → R
  join = m.join

  pub le_trans : (x y z : R) → m.good x → m.good y → m.good z → Le join x y → Le join y z → Le join x z
  le_trans x y z p q r a b = ap (join x) (sym b) ∙ sym (m.lattice.assoc x y z p q r) ∙ ap (λ w. join w z) a ∙ b

  pub join_left : (x y : R) → m.good x → m.good y → Le join x (join x y)
  join_left x y p q = sym (m.lattice.assoc x x y p p q) ∙ ap (λ w. join w y) (m.lattice.idem x p)

  pub join_right : (x y : R) → m.good x → m.good y → Le join y (join x y)
  join_right x y p q = ap (join y) (m.lattice.comm x y p q) ∙ join_left y x q p ∙ m.lattice.comm y x q p

  pub join_least : (x y z : R) → m.good x → m.good y → m.good z → Le join x z → Le join y z → Le join (join x y) z
  join_least x y z p q r a b = m.lattice.assoc x y z p q r ∙ ap (join x) b ∙ a

  -- what landed in a table lands in one above it
  pub lands_up : {T T' : Table m} {s : Sent R} → ((j : ℕ) → j < nodes m → m.good (T j)) → ((j : ℕ) → j < nodes m → m.good (T' j)) → ((j : ℕ) → j < nodes m → Le join (T j) (T' j))
      → Lawful m.good (nodes m) s → Lands m T s → Lands m T' s
  lands_up goods goods' up nothing_lawful nothing_lands = nothing_lands
  lands_up {T} {T'} goods goods' up (row_lawful {k} {x} l g) (row_lands h) = row_lands (le_trans x (T k) (T' k) g (goods k l) (goods' k l) h (up k l))

  -- a row below one that landed
  pub below_lands : {U : Table m} {k : ℕ} {x : R} {s : Sent R} → ((j : ℕ) → j < nodes m → m.good (U j)) → Lawful m.good (nodes m) (sent k x) → Lawful m.good (nodes m) s
      → Below join (sent k x) s → Lands m U s → Le join x (U k)
  below_lands {U} goods (row_lawful l g) nothing_lawful below _ = elim below [ ]
  below_lands {U} goods (row_lawful l g) (row_lawful l' g') (row_below {k} {x} {y} h) (row_lands h') = le_trans x y (U k) g g' (goods k l) h h'
