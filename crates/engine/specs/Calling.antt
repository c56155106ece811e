-- Calls and returns among the frames that stand. Assumes nothing.
use Rattle.std.specs.Prelude.{◌≡◌, ℕ, suc, ◌+◌, ◌-◌, ◌<◌, ◌≤◌, true, cond, List, [], ◌∷◌, ◌++◌, reverse, length, take, drop, replicate, Some, Option, is_some, nat_lt, ⊤}
use Rattle.heap.specs.declared.value.Value.{Value}
use Rattle.heap.specs.declared.value.Value.TheVariants as value
use Rattle.heap.specs.Meaning.{Meaning}
use Rattle.jinja.specs.Options.{◌>>=◌}
use Rattle.jinja.specs.Program.{Program}
use Rattle.jinja.specs.Lookups.{Owned}
use Rattle.jinja.specs.Step.{Frame, Next, goes, frames_full, frame_limit, call, return_to}
use Rattle.engine.specs.Limits.{cell_limit}
use Rattle.engine.specs.Stepping.{top_stack, past_with}

-- the n topmost operands in the order in which they were pushed
abbrev pub arguments : {A : Type 0} → ℕ → List A → List A
arguments n st = reverse (take n st)

-- the first frame of the method of number k, with so many registers besides
abbrev pub fresh : ℕ → ℕ → List Value → ℕ → Frame
fresh k this args extras = record { method = k; pc = 0; stack = []; registers = value.Addr this ∷ args ++ replicate extras value.Unit }

-- the method that the object at a sees by the name m, on top, with n arguments from the top frame
abbrev pub call_top : Program → Meaning → ℕ → ℕ → ℕ → Owned → List Frame → Option Next
call_top P h m n a M fs = call P h m a (arguments n (top_stack fs)) M (drop (suc n) (top_stack fs)) fs

-- one frame more, where there is room
abbrev pub above : Meaning → Frame → List Frame → Option Next
above h f fs = cond (nat_lt (length fs) frame_limit) (Some (goes h (f ∷ fs))) (Some frames_full)

-- the frames that wait
abbrev pub below : List Frame → List Frame
below [] = []
below (f ∷ rest) = rest

-- the top frame takes a value for n arguments and the receiver, where r holds
pub record Resumes (P : Program) (n : ℕ) (fs : List Frame) (r : Option ⊤) : Type 0 where
  pub does : (h : Meaning) (v : Value) → return_to P h v n fs ≡ (r >>= λ _. Some (goes h (past_with (n + 1) v fs)))
  pub few : is_some r ≡ true → n < cell_limit
  pub high : is_some r ≡ true → n + 1 ≤ length (top_stack fs)
  pub low : is_some r ≡ true → length (top_stack fs) - (n + 1) < cell_limit
