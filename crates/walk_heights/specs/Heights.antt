-- How high the stack is before each step of a code whose steps push one cell or branch on one. Assumes nothing.
use Rattle.std.specs.Prelude.{ℕ, zero, suc, ◌+◌, ◌-◌, ◌≤◌, Bool, true, false, cond, List, length, ◌==◌, nat_le, nat_lt, slice_index}
use Rattle.walk_heights.specs.declared.height.Height.{Height}
use Rattle.walk_heights.specs.declared.height.Height.TheVariants.{Unreached, Tall, Clash}
use Rattle.walk.specs.Flow.{Sent, nothing, sent, Flow}
use Rattle.walk.specs.Rows.{OneRow}
use Rattle.walk_heights.specs.Steps.{is_branch}

-- the greatest height
abbrev pub highest : ℕ
highest = 16

abbrev pub joined : Height → Height → Height
joined Unreached y = y
joined (Tall a) Unreached = Tall a
joined (Tall a) (Tall b) = cond (a == b) (Tall a) Clash
joined (Tall a) Clash = Clash
joined Clash y = Clash

abbrev pub Good : Height → Type 0
Good Unreached = Unit {0}
Good (Tall h) = h ≤ highest
Good Clash = Unit {0}

-- how often a height can still rise
abbrev pub rises_left : Height → ℕ
rises_left Unreached = 2
rises_left (Tall h) = 1
rises_left Clash = 0

-- 0 is unreached, 1 + h a height, and the next number a clash
abbrev pub number_of : Height → ℕ
number_of Unreached = 0
number_of (Tall h) = 1 + h
number_of Clash = highest + 2

abbrev pub read_number : ℕ → Height
read_number zero = Unreached
read_number (suc h) = cond (nat_le h highest) (Tall h) Clash

abbrev pub read : List ℕ → Height
read x = read_number (slice_index x 0)

abbrev pub Shows : List ℕ → Type 0
Shows x = OneRow x × (slice_index x 0 ≤ highest + 2)

abbrev pub refused_at : ℕ → Height → Bool
refused_at c Unreached = false
refused_at c (Tall h) = cond (is_branch c) (h == 0) (nat_le highest h)
refused_at c Clash = true

-- the height after a step
abbrev pub after : ℕ → ℕ → ℕ
after c h = cond (is_branch c) (h - 1) (h + 1)

-- to step k of n
abbrev pub to_step : ℕ → ℕ → ℕ → Sent Height
to_step n k h = cond (nat_lt k n) (sent k (Tall h)) nothing

-- edge 0 goes to the next step; edge 1, to where a branch goes
abbrev pub sends_height : ℕ → ℕ → ℕ → ℕ → ℕ → Sent Height
sends_height n c i zero h = to_step n (i + 1) (after c h)
sends_height n c i (suc e) h = cond (is_branch c) (to_step n c (after c h)) nothing

abbrev pub sends : ℕ → ℕ → ℕ → ℕ → Height → Sent Height
sends n c i e Unreached = nothing
sends n c i e (Tall h) = sends_height n c i e h
sends n c i e Clash = nothing

-- the flow of a code, from an empty stack
abbrev pub heights : List ℕ → Flow Height
heights code = record {
  count = length code;
  start = Tall 0;
  refused = λ i x. refused_at (slice_index code i) x;
  edges = λ _. 2;
  sends = λ i e x. sends (length code) (slice_index code i) i e x;
}
