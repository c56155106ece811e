-- What a pen does: bytes put one behind the other into a slice, or only counted.
use Rattle.std.specs.Prelude.{◌≡◌, ℕ, ◌+◌, ◌-◌, ◌<◌, ◌≤◌, max, Bool, true, cond, List, ◌++◌, length, take, drop, Result, MatchResult}
use Rattle.std.proofs.lemmas.List.Edits.{sets}
use Rattle.std.specs.Borrow.{GName}
use Rattle.number.specs.declared.pen.Pen.{Pen}

-- a pen: the bytes of its slice, the place of the next byte, whether it only counts, and which slice it is
pub record State : Type 0 where
  pub out : List ℕ
  pub place : ℕ
  pub dry : Bool
  pub slice : GName

abbrev pub pen_of : Pen → State
pen_of p = record { out = p.out.now; place = p.place; dry = p.dry; slice = p.out.ghost_name }

-- the pen t comes of the pen s by the bytes bs
pub record Put (s t : State) (bs : List ℕ) : Type 0 where
  pub place : t.place ≡ s.place + length bs
  -- it does not pass the end
  pub within : t.place ≤ max s.place (length s.out)
  pub out : t.out ≡ cond s.dry s.out (sets s.out s.place bs)
  pub dry : t.dry ≡ s.dry
  -- it is still the same slice
  pub slice : t.slice ≡ s.slice

-- the slice of the pen s is too short for the bytes bs: the pen t comes by those that have room
pub record Full (s t : State) (bs : List ℕ) : Type 0 where
  pub short : length s.out < s.place + length bs
  pub front : Put s t (take (length s.out - s.place) bs)

abbrev pub Puts : {T E : Type 0} → Result T E → State → State → List ℕ → Type 0
Puts r s t bs = MatchResult r (λ _. Put s t bs) (λ _. Full s t bs)

-- the answer of a pen, dry or not, that puts the bytes bs from the first byte of a slice on: their number, or that it is too short
abbrev pub Ran : {E : Type 0} → Result ℕ E → Bool → List ℕ → List ℕ → List ℕ → Type 0
Ran r dry bs before after =
    MatchResult r (λ n. (n ≡ length bs) × (n ≤ length before) × (after ≡ cond dry before (sets before 0 bs)))
    (λ _. (length before < length bs) × (dry ≡ true → after ≡ before))

-- the answer of a writer of the bytes bs: their number, and they stand in front; or the slice is too short, and stays as it was
abbrev pub Written : {E : Type 0} → Result ℕ E → List ℕ → List ℕ → List ℕ → Type 0
Written r bs before after =
    MatchResult r (λ n. (n ≡ length bs) × (after ≡ bs ++ drop (length bs) before)) (λ _. (length before < length bs) × (after ≡ before))
