-- What a step answers and leaves, by what it comes to. Assumes nothing.
use Rattle.std.specs.Prelude.{◌≡◌, ℕ, suc, true, List, [], ◌∷◌, length, drop, Some, None, Option}
use Rattle.heap.specs.declared.value.Value.{Value}
use Rattle.heap.specs.Meaning.{Meaning}
use Rattle.jinja.specs.declared.instr.Instr.{Instr}
use Rattle.jinja.specs.Program.{Program}
use Rattle.jinja.specs.Lookups.{Owned}
use Rattle.jinja.specs.Step.{Frame, at_place, goes, returned, threw, frames_full, cast, exec, Next as Coming}
use Rattle.tables.specs.declared.records.MethodRec.{MethodRec}
use Rattle.engine.specs.Moving.{is_local}
use Rattle.engine.specs.declared.next.Next.{Next}
use Rattle.engine.specs.declared.next.Next.TheVariants.{Goes, Returned, Threw, FramesFull}

-- the number of the top frame's method
abbrev pub top_method : List Frame → ℕ
top_method [] = 0
top_method (f ∷ rest) = f.method

-- the instruction of the place where the top frame stands
abbrev pub top_pc : List Frame → ℕ
top_pc [] = 0
top_pc (f ∷ rest) = f.pc

abbrev pub top_stack : List Frame → List Value
top_stack [] = []
top_stack (f ∷ rest) = f.stack

-- the top frame at its next instruction, without its n topmost operands
abbrev pub past : ℕ → List Frame → List Frame
past n [] = []
past n (f ∷ rest) = at_place f (suc f.pc) (drop n f.stack) ∷ rest

-- and with v in their place
abbrev pub past_with : ℕ → Value → List Frame → List Frame
past_with n v [] = []
past_with n v (f ∷ rest) = at_place f (suc f.pc) (v ∷ drop n f.stack) ∷ rest

-- an instruction of the method M in the top frame
abbrev pub exec_top : Program → Instr → Meaning → Owned → List Frame → Option Coming
exec_top P i h M [] = None
exec_top P i h M (f ∷ rest) = exec P i h M f rest

-- the cast of the object at a, on top of the top frame
abbrev pub cast_top : Program → Meaning → ℕ → ℕ → List Frame → Option Coming
cast_top P h c a [] = None
cast_top P h c a (f ∷ rest) = cast P h c a f rest

-- only a step that goes on changes heap and frames
abbrev pub settle : Meaning → List Frame → Option Coming → Option Next × Meaning × List Frame
settle h fs None = (None, h, fs)
settle h fs (Some (goes g gs)) = (Some Goes, g, gs)
settle h fs (Some (returned v)) = (Some (Returned v), h, fs)
settle h fs (Some (threw a)) = (Some (Threw a), h, fs)
settle h fs (Some frames_full) = (Some FramesFull, h, fs)

-- what the local instruction i of a method of this greatest height and so many instructions does, over any heap
abbrev pub StepsLocally : ℕ → ℕ → Instr → List Frame → Option Next → List Frame → Type 0
StepsLocally height size i fs r gs = (P : Program) (M : Owned) → M.method.height ≡ height → length M.method.code ≡ size → is_local i ≡ true → (h : Meaning) → (r, h, gs) ≡ settle h fs (exec_top P i h M fs)

-- what the instruction i of a method of this greatest height answers and leaves
abbrev pub Steps : Program → ℕ → Instr → Meaning → List Frame → Option Next → Meaning → List Frame → Type 0
Steps P height i h fs r g gs = (M : Owned) → M.method.height ≡ height → (r, g, gs) ≡ settle h fs (exec_top P i h M fs)

-- the method M has this record and so many instructions
pub record Recorded (M : Owned) (m : MethodRec) (size : ℕ) : Type 0 where
  pub height : M.method.height ≡ m.height
  pub result : M.method.result ≡ m.result
  pub params : length M.method.params ≡ m.params.count
  pub code : length M.method.code ≡ size
