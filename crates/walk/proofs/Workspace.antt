-- Rows in a workspace: what a write to one leaves of it and of the others. Assumes nothing.
use Rattle.std.proofs.Common.{◌≡◌, ℕ, ◌+◌, ◌-◌, ◌*◌, ◌<◌, ◌≤◌, Bool, List, length, take, drop, MatchBool, sym, ap, ◌∙◌, subst, ⊎_elim, arith, below_more}
use borrow.Rule.Slice.PartMut.{put_mid}
use Rattle.std.proofs.lemmas.List.{drop-take}
use Rattle.std.proofs.lemmas.Slice.{take-put_mid_below, drop-put_mid, between-put_mid}
use Rattle.std.proofs.lemmas.Bool.{cases_eq, cases_lt}
use Rattle.walk.specs.Limits.{width}
use Rattle.walk.specs.Framework.{Framework, nodes}
use Rattle.walk.specs.Rows.{row_at, Room, table, Shown, Written}
use Rattle.walk.specs.Walking.{Begun}

-- a row as the checker reads `&xs[from..from + width]`
pub part_row : (k : ℕ) (xs : List ℕ) → take ((k * width + width) - k * width) (drop (k * width) xs) ≡ row_at xs k
part_row k xs = let e : (k * width + width) - k * width ≡ width = omega arith in ap (λ (n : ℕ). take n (drop (k * width) xs)) e

-- the workspace with row k written, as the checker reads it
abbrev pub written : List ℕ → ℕ → List ℕ → List ℕ
written xs k r = put_mid (k * width) ((k * width + width) - k * width) xs r

module _ (xs : List ℕ) (k : ℕ) (r : List ℕ) (room : k * width + width ≤ length xs) (long : length r ≡ width) where
  abbrev size : ℕ
  size = (k * width + width) - k * width

  pub row_same : row_at (written xs k r) k ≡ r
  row_same = sym (part_row k (written xs k r)) ∙ between-put_mid (k * width) size xs r (k * width + width) (omega arith) (omega arith)

  pub row_other : (j : ℕ) → (j ≡ k → ⊥) → row_at (written xs k r) j ≡ row_at xs j
  row_other j ne =
      ⊎_elim
      (λ (l : j < k).
      let ys = written xs k r in
      sym (drop-take (j * width) width ys) ∙ ap (drop (j * width)) (take-put_mid_below (k * width) size xs r (j * width + width) (omega arith) (omega arith)) ∙ drop-take (j * width) width xs)
      (λ (l : k ≤ j). ap (take width) (drop-put_mid (k * width) size xs r (j * width) (omega arith) (omega arith) (omega arith)))
      (cases_lt j k)

  -- what lies behind all rows stays
  pub row_rest : (n : ℕ) → k < n → n * width ≤ length xs → drop (n * width) (written xs k r) ≡ drop (n * width) xs
  row_rest n l h = drop-put_mid (k * width) size xs r (n * width) (omega arith) (omega arith) (omega arith)

module _ (m : Framework) (xs : List ℕ) (k : ℕ) (node : k < nodes m) (room : Room m xs) where
  module _ (r : List ℕ) (long : length r ≡ width) where
    pub row_written : (x : m.Row) → m.shows r → m.read r ≡ x → Written m k x xs (written xs k r)
    row_written x shows means =
        let same = row_same xs k r (omega arith) long in
        record {
          shows = subst m.shows (sym same) shows;
          means = ap m.read same ∙ means;
          other = row_other xs k r (omega arith) long;
          behind = row_rest xs k r (omega arith) long (nodes m) node room;
        }

    -- what a part of the workspace was joined with is joined into the row of node k
    pub row_joined : (x : m.Row) → m.shows r → m.read r ≡ m.join (m.read (take ((k * width + width) - k * width) (drop (k * width) xs))) x → Written m k (m.join (table m xs k) x) xs (written xs k r)
    row_joined x shows means = row_written (m.join (table m xs k) x) shows (means ∙ ap (λ (l : List ℕ). m.join (m.read l) x) (part_row k xs))

    -- whether the part changed is whether the row of node k did
    pub row_changed : (b : Bool) → MatchBool b (m.read r ≡ m.read (take ((k * width + width) - k * width) (drop (k * width) xs)) → ⊥) (m.read r ≡ m.read (take ((k * width + width) - k * width) (drop (k * width) xs)))
        → MatchBool b (table m (written xs k r) k ≡ table m xs k → ⊥) (table m (written xs k r) k ≡ table m xs k)
    row_changed b h =
        subst (λ (new : List ℕ). MatchBool b (m.read new ≡ table m xs k → ⊥) (m.read new ≡ table m xs k)) (sym (row_same xs k r (omega arith) long))
        (subst (λ (old : List ℕ). MatchBool b (m.read r ≡ m.read old → ⊥) (m.read r ≡ m.read old)) (part_row k xs) h)

-- one row written: every node's numbers still show a row
pub shown_written : (m : Framework) {k : ℕ} {x : m.Row} {xs xs' : List ℕ} → Written m k x xs xs' → Shown m xs → Shown m xs'
shown_written m {k} {x} {xs} {xs'} w shown j l =
    ⊎_elim
    (λ (p : j ≡ k). subst (λ (n : ℕ). m.shows (row_at xs' n)) (sym p) w.shows)
    (λ (p : j ≡ k → ⊥). subst m.shows (sym (w.other j p)) (shown j l))
    (cases_eq j k)

-- node j has the row of a node that nothing has reached
abbrev pub Cleared : Framework → List ℕ → ℕ → Type 0
Cleared m xs j = m.shows (row_at xs j) × (table m xs j ≡ m.bottom)

pub cleared_more : (m : Framework) {i : ℕ} {xs xs' : List ℕ} → Written m i m.bottom xs xs' → ((j : ℕ) → j < i → Cleared m xs j) → (j : ℕ) → j < i + 1 → Cleared m xs' j
cleared_more m {i} {xs} {xs'} w cleared =
    below_more (Cleared m xs') i
    (λ j l. let same = w.other j (omega arith) in subst (λ (r : List ℕ). m.shows r × (m.read r ≡ m.bottom)) (sym same) (cleared j l))
    (w.shows, w.means)

-- the start written at node 0, the others cleared
pub begun : (m : Framework) {xs xs' : List ℕ} → Written m 0 m.flow.start xs xs' → ((j : ℕ) → j < nodes m → Cleared m xs j) → Shown m xs' × Begun m (table m xs')
begun m {xs} {xs'} w cleared =
    (shown_written m w (λ j l. (cleared j l).0), record { first = λ _. w.means; others = λ j p l. ap m.read (w.other j (omega arith)) ∙ (cleared j l).1 })
