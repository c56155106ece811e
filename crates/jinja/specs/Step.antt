-- One step of the machine: first the checks, then the effect. A check that fails leaves no answer. Assumes nothing.
use Rattle.std.specs.Prelude.{ℕ, suc, Bool, cond, ◌&&◌, List, [], ◌∷◌, ◌++◌, length, replicate, ℤ, ◌+ℤ◌, Some, None, Option, nat_le, nat_lt, slice_set}
use Rattle.std.specs.List.{slice_get}
use Rattle.std.specs.Int.{int_wrap, w32}
use Rattle.heap.specs.declared.value.Value.{Value}
use Rattle.heap.specs.declared.value.Value.TheVariants as value
use Rattle.heap.specs.Meaning.{Meaning, admits}
use Rattle.heap.specs.Calls.{with_object, with_value}
use Rattle.jinja.specs.declared.instr.Instr.{Instr}
use Rattle.jinja.specs.declared.instr.Instr.TheVariants.{Load, Store, Push, Pop, New, Getfield, Putfield, Checkcast, Invoke, Return, IAdd, CmpEq, IfFalse, Goto, Throw}
use Rattle.jinja.specs.declared.program.FieldPlace.{FieldPlace}
use Rattle.jinja.specs.declared.program.Handler.{Handler}
use Rattle.jinja.specs.Options.{◌>>=◌, ◌>>◌, top, top_of, two, two_of}
use Rattle.jinja.specs.Program.{Program}
use Rattle.jinja.specs.Classes.{is_class, at_or_below}
use Rattle.jinja.specs.Lookups.{Owned, own_field, method_at, sees}
use Rattle.jinja.specs.Rule.{operands, operands_of, jump}
use Rattle.jinja.specs.Handlers.{lowest}
use Rattle.jinja.specs.Transfer.{can_push}
use Rattle.jinja.specs.Values.{class_of, fits, fit_all, literal_value, start_row, same_value}

-- a method at work: its number, its instruction, the operand stack with the top first, and the registers
pub record Frame : Type 0 where
  pub method : ℕ
  pub pc : ℕ
  pub stack : List Value
  pub registers : List Value

-- at most so many frames stand
abbrev pub frame_limit : ℕ
frame_limit = 32

-- what a step comes to, where every check is passed
pub data Next : Type 0 where
  goes : Meaning → List Frame → Next
  returned : Value → Next
  threw : ℕ → Next
  frames_full : Next

-- where begin puts the exception objects
abbrev pub null_pointer_at : ℕ
null_pointer_at = 0

abbrev pub class_cast_at : ℕ
class_cast_at = 1

abbrev pub out_of_memory_at : ℕ
out_of_memory_at = 2

abbrev pub as_boolean : Value → Option Bool
as_boolean value.Unit = None
as_boolean value.Null = None
as_boolean (value.Bool b) = Some b
as_boolean (value.Int z) = None
as_boolean (value.Addr a) = None

abbrev pub as_integer : Value → Option ℤ
as_integer value.Unit = None
as_integer value.Null = None
as_integer (value.Bool b) = None
as_integer (value.Int z) = Some z
as_integer (value.Addr a) = None

-- a reference is Null or an address
abbrev pub on_reference : Value → Option Next → (ℕ → Option Next) → Option Next
on_reference value.Unit n f = None
on_reference value.Null n f = n
on_reference (value.Bool b) n f = None
on_reference (value.Int z) n f = None
on_reference (value.Addr a) n f = f a

-- the frame at another instruction, with another stack
abbrev pub at_place : Frame → ℕ → List Value → Frame
at_place f p stk = record { method = f.method; pc = p; stack = stk; registers = f.registers }

abbrev pub with_register : Frame → ℕ → Value → Frame
with_register f n v = record { method = f.method; pc = f.pc; stack = f.stack; registers = slice_set f.registers n v }

-- the first frame of the method N, whose number is k
abbrev pub opened : Owned → ℕ → ℕ → List Value → Frame
opened N k this args = record { method = k; pc = 0; stack = []; registers = value.Addr this ∷ args ++ replicate N.method.extras value.Unit }

-- on to the next instruction, with this stack
abbrev pub going : Meaning → Frame → List Value → List Frame → Option Next
going h f stk rest = Some (goes h (at_place f (suc f.pc) stk ∷ rest))

module _ (P : Program) where
  -- the handler covers the instruction and catches objects of class c
  unfoldable pub catches : Handler → ℕ → ℕ → Bool
  catches x pc c = nat_le x.first pc && nat_lt pc x.end && at_or_below P c x.class

  -- the first handler of the table that catches
  abbrev pub catcher : List Handler → ℕ → ℕ → Option Handler
  catcher [] pc c = None
  catcher (x ∷ xs) pc c = cond (catches x pc c) (Some x) (catcher xs pc c)

  -- the frame goes on at the handler's target with its lowest cells and the object; or else the frames below are asked
  abbrev pub catch : Meaning → ℕ → Owned → Option Handler → Frame → List Frame → Option Next → Option Next
  catch h a M None f rest below = below
  catch h a M (Some x) f rest below =
      nat_le x.depth (length f.stack) >> (nat_lt x.depth M.method.height >> (nat_lt x.target (length M.method.code) >>
      Some (goes h (at_place f x.target (value.Addr a ∷ lowest x.depth f.stack) ∷ rest))))

  -- the object at a, of class c, is thrown: handlers are searched frame by frame from the top, in table order
  abbrev pub unwind : Meaning → ℕ → ℕ → List Frame → Option Next
  unwind h a c [] = Some (threw a)
  unwind h a c (f ∷ rest) = let below = unwind h a c rest in method_at P f.method >>= λ M. catch h a M (catcher M.method.handlers f.pc c) f rest below

  abbrev pub raise : Meaning → ℕ → List Frame → Option Next
  raise h a fs = class_of h a >>= λ c. unwind h a c fs

  -- New: an object, or OutOfMemory where the heap has no room
  abbrev pub make : Meaning → ℕ → Frame → List Frame → Option Next
  make h c f rest =
      cond (admits h (length (start_row P c)))
      (going (with_object h c (start_row P c)) f (value.Addr (length h.objects) ∷ f.stack) rest)
      (raise h out_of_memory_at (f ∷ rest))

  -- Getfield: what stands at the field's place
  abbrev pub get : Meaning → FieldPlace → ℕ → ℕ → Frame → List Value → List Frame → Option Next
  get h x c a f stk rest = slice_get h.objects a >>= λ o. at_or_below P o.class c >> (slice_get o.row x.place >>= λ v. fits P h v x.ty >> going h f (v ∷ stk) rest)

  -- Putfield: another value at the field's place
  abbrev pub put : Meaning → FieldPlace → ℕ → ℕ → Value → Frame → List Value → List Frame → Option Next
  put h x c a v f stk rest = slice_get h.objects a >>= λ o. at_or_below P o.class c >> (nat_lt x.place (length o.row) >> going (with_value h a x.place v) f stk rest)

  -- Checkcast: the same stack, or ClassCast
  abbrev pub cast : Meaning → ℕ → ℕ → Frame → List Frame → Option Next
  cast h c a f rest = class_of h a >>= λ d. cond (at_or_below P d c) (going h f f.stack rest) (raise h class_cast_at (f ∷ rest))

  -- Invoke on the object at a: the caller waits at its Invoke, arguments and receiver still there
  abbrev pub call : Meaning → ℕ → ℕ → List Value → Owned → List Value → List Frame → Option Next
  call h m a args M left fs =
      class_of h a >>= λ c. sees P c m >>= λ k. method_at P k >>= λ N. fit_all P h args N.method.params >> (can_push M left >>
      cond (nat_lt (length fs) frame_limit) (Some (goes h (opened N k a args ∷ fs))) (Some frames_full))

  -- Return: the caller gives arguments and receiver for the value, and goes on behind its Invoke
  abbrev pub return_to : Meaning → Value → ℕ → List Frame → Option Next
  return_to h v n [] = Some (returned v)
  return_to h v n (f ∷ rest) = method_at P f.method >>= λ M. operands_of n f.stack >>= λ p. elim p [ operands args r left ↦ can_push M left >> going h f (v ∷ left) rest ]

  -- one instruction of the method M in its frame f, above the frames rest
  abbrev pub exec : Instr → Meaning → Owned → Frame → List Frame → Option Next
  exec (Load n) h M f rest = slice_get f.registers n >>= λ v. can_push M f.stack >> going h f (v ∷ f.stack) rest
  exec (Store n) h M f rest = top_of f.stack >>= λ p. nat_lt n (length f.registers) >> elim p [ top v stk ↦ going h (with_register f n v) stk rest ]
  exec (Push v) h M f rest = can_push M f.stack >> going h f (literal_value v ∷ f.stack) rest
  exec Pop h M f rest = top_of f.stack >>= λ p. elim p [ top v stk ↦ going h f stk rest ]
  exec (New c) h M f rest = is_class P c >> (can_push M f.stack >> make h c f rest)
  exec (Getfield n c) h M f rest =
      top_of f.stack >>= λ p. own_field P c n >>= λ x. elim p [ top r stk ↦ can_push M stk >> on_reference r (raise h null_pointer_at (f ∷ rest)) (λ a. get h x c a f stk rest) ]
  exec (Putfield n c) h M f rest =
      two_of f.stack >>= λ p. own_field P c n >>= λ x. elim p [ two v r stk ↦ fits P h v x.ty >> on_reference r (raise h null_pointer_at (f ∷ rest)) (λ a. put h x c a v f stk rest) ]
  exec (Checkcast c) h M f rest =
      top_of f.stack >>= λ p. is_class P c >> elim p [ top r stk ↦ can_push M stk >> on_reference r (going h f f.stack rest) (λ a. cast h c a f rest) ]
  exec (Invoke m n) h M f rest =
      operands_of n f.stack >>= λ p. elim p [ operands args r left ↦ on_reference r (raise h null_pointer_at (f ∷ rest)) (λ a. call h m a args M left (f ∷ rest)) ]
  exec Return h M f rest = top_of f.stack >>= λ p. elim p [ top v stk ↦ fits P h v M.method.result >> return_to h v (length M.method.params) rest ]
  exec IAdd h M f rest =
      two_of f.stack >>= λ p. elim p [ two v w stk ↦ as_integer v >>= λ a. as_integer w >>= λ b. can_push M stk >> going h f (value.Int (int_wrap w32 (b +ℤ a)) ∷ stk) rest ]
  exec CmpEq h M f rest = two_of f.stack >>= λ p. elim p [ two v w stk ↦ can_push M stk >> going h f (value.Bool (same_value w v) ∷ stk) rest ]
  exec (IfFalse z) h M f rest =
      top_of f.stack >>= λ p. jump f.pc z >>= λ q. nat_lt q (length M.method.code) >> elim p [ top v stk ↦ as_boolean v >>= λ b. Some (goes h (at_place f (cond b (suc f.pc) q) stk ∷ rest)) ]
  exec (Goto z) h M f rest = jump f.pc z >>= λ q. nat_lt q (length M.method.code) >> Some (goes h (at_place f q f.stack ∷ rest))
  exec Throw h M f rest = top_of f.stack >>= λ p. elim p [ top r stk ↦ on_reference r (raise h null_pointer_at (f ∷ rest)) (λ a. raise h a (f ∷ rest)) ]

  -- the instruction of the top frame
  abbrev pub next_step : Meaning → List Frame → Option Next
  next_step h [] = None
  next_step h (f ∷ rest) = method_at P f.method >>= λ M. slice_get M.method.code f.pc >>= λ i. exec i h M f rest
