-- What a move of the top frame does, by the step of its instruction. Assumes nothing.
use Rattle.std.specs.Prelude.{◌≡◌, ℕ, suc, Bool, true, false, List, ◌∷◌, length, ◌+ℤ◌, Some, None, Option, is_some, nat_lt, ⊤}
use Rattle.std.specs.Int.{int_wrap, w32}
use Rattle.heap.specs.declared.value.Value.{Value}
use Rattle.heap.specs.declared.value.Value.TheVariants as value
use Rattle.heap.specs.Meaning.{Meaning}
use Rattle.jinja.specs.declared.instr.Instr.{Instr}
use Rattle.jinja.specs.declared.instr.Instr.TheVariants.{Load, Store, Push, Pop, New, Getfield, Putfield, Checkcast, Invoke, Return, IAdd, CmpEq, IfFalse, Goto, Throw}
use Rattle.jinja.specs.Options.{◌>>=◌}
use Rattle.jinja.specs.Program.{Program}
use Rattle.jinja.specs.Lookups.{Owned}
use Rattle.jinja.specs.Step.{Frame, goes, at_place, as_integer, exec}

-- the instruction i of the method M leads from f to g alone, or has no answer and leaves f
pub record Moves (P : Program) (M : Owned) (i : Instr) (f : Frame) (r : Option ⊤) (g : Frame) : Type 0 where
  pub does : (h : Meaning) (rest : List Frame) → exec P i h M f rest ≡ (r >>= λ _. Some (goes h (g ∷ rest)))
  pub keeps : r ≡ None → g ≡ f

-- in every method
abbrev pub MovesAlways : Instr → Frame → Option ⊤ → Frame → Type 0
MovesAlways i f r g = (P : Program) (M : Owned) → Moves P M i f r g

-- in every method of this greatest height
abbrev pub MovesUnder : ℕ → Instr → Frame → Option ⊤ → Frame → Type 0
MovesUnder height i f r g = (P : Program) (M : Owned) → M.method.height ≡ height → Moves P M i f r g

-- in every method of so many instructions
abbrev pub MovesWithin : ℕ → Instr → Frame → Option ⊤ → Frame → Type 0
MovesWithin size i f r g = (P : Program) (M : Owned) → length M.method.code ≡ size → Moves P M i f r g

-- the instruction moves the top frame alone
abbrev pub is_local : Instr → Bool
is_local (Load n) = true
is_local (Store n) = true
is_local (Push v) = true
is_local Pop = true
is_local (New c) = false
is_local (Getfield n c) = false
is_local (Putfield n c) = false
is_local (Checkcast c) = false
is_local (Invoke m n) = false
is_local Return = false
is_local IAdd = true
is_local CmpEq = true
is_local (IfFalse z) = true
is_local (Goto z) = true
is_local Throw = false

-- in every method of this greatest height and so many instructions
abbrev pub MovesLocally : ℕ → ℕ → Instr → Frame → Option ⊤ → Frame → Type 0
MovesLocally height size i f r g = (P : Program) (M : Owned) → M.method.height ≡ height → length M.method.code ≡ size → is_local i ≡ true → Moves P M i f r g

-- on to the next instruction with v on top of the cells, where they are lower than the greatest height
pub record Onward (height : ℕ) (f : Frame) (cells : List Value) (v : Value) (r : Option ⊤) (g : Frame) : Type 0 where
  pub told : is_some r ≡ nat_lt (length cells) height
  pub moved : is_some r ≡ true → g ≡ at_place f (suc f.pc) (v ∷ cells)
  pub kept : r ≡ None → g ≡ f

-- the sum of two integers, the upper one first
abbrev pub sum_of : Value → Value → Option Value
sum_of v w = as_integer v >>= λ a. as_integer w >>= λ b. Some (value.Int (int_wrap w32 (b +ℤ a)))
