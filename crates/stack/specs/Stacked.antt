-- What the calls on a bounded stack do, by the cells and the height before and after. Assumes nothing.
use Rattle.std.specs.Prelude.{◌≡◌, ℕ, ◌+◌, ◌-◌, ◌<◌, ◌≤◌, List, ◌∷◌, reverse, length, take, drop, Some, None, Ok, Err, Option, Result, slice_set}

-- what a stack of height h over the cells xs holds, the top first
abbrev pub held : {X : Type 0} → List X → ℕ → List X
held xs h = reverse (take h xs)

-- a push is refused exactly where every cell is taken; else the new cell lies on top of what was held
abbrev pub Pushed : {X E : Type 0} → List X → ℕ → X → List X → ℕ → Result (Unit {0}) E → Type 0
Pushed xs h x ys k (Ok _) = (h < length xs) × (k ≡ h + 1) × (ys ≡ slice_set xs h x) × (held ys k ≡ x ∷ held xs h)
Pushed xs h x ys k (Err _) = (length xs ≤ h) × (k ≡ h) × (ys ≡ xs)

-- a pop is refused exactly where nothing is held; no cell changes
abbrev pub Popped : {X : Type 0} → List X → ℕ → List X → ℕ → Option X → Type 0
Popped xs h ys k None = (h ≡ 0) × (k ≡ h) × (ys ≡ xs)
Popped xs h ys k (Some x) = (h ≡ k + 1) × (ys ≡ xs) × (held xs h ≡ x ∷ held ys k)

-- the cell with i cells above it; none exactly where no more than i are held
abbrev pub Seen : {X : Type 0} → List X → ℕ → ℕ → Option X → Type 0
Seen xs h i None = h ≤ i
Seen xs h i (Some x) = (i < h) × (drop i (held xs h) ≡ x ∷ held xs (h - (i + 1)))

-- n cells are let go from the top; refused exactly where fewer are held; no cell changes
abbrev pub Discarded : {X E : Type 0} → List X → ℕ → ℕ → List X → ℕ → Result (Unit {0}) E → Type 0
Discarded xs h n ys k (Ok _) = (k + n ≡ h) × (ys ≡ xs) × (held ys k ≡ drop n (held xs h))
Discarded xs h n ys k (Err _) = (h < n) × (k ≡ h) × (ys ≡ xs)

-- the top gives way to x; refused exactly where nothing is held
abbrev pub Replaced : {X E : Type 0} → List X → ℕ → X → List X → ℕ → Result (Unit {0}) E → Type 0
Replaced xs h x ys k (Ok _) = (0 < h) × (k ≡ h) × (ys ≡ slice_set xs (h - 1) x) × (held ys k ≡ x ∷ held xs (h - 1))
Replaced xs h x ys k (Err _) = (h ≡ 0) × (k ≡ h) × (ys ≡ xs)
