-- Histories: calls one after the other, what they answer, and the objects that they make. Assumes nothing.
use Rattle.std.specs.Prelude.{ℕ, zero, suc, ◌+◌, Bool, true, cond, ◌&&◌, List, [], ◌∷◌, ◌++◌, length, None, Ok, Err, sum_by, Option, Result, nat_le}
use Rattle.std.specs.List.{slice_get}
use Rattle.heap.specs.declared.charge.ChargeLine.{ChargeLine}
use Rattle.heap.specs.Meaning.{cost}
use Rattle.jinja.specs.declared.instr.Instr.{Instr}
use Rattle.jinja.specs.declared.instr.Instr.TheVariants.{Load, Store, Push, Pop, New, Getfield, Putfield, Checkcast, Invoke, Return, IAdd, CmpEq, IfFalse, Goto, Throw}
use Rattle.jinja.specs.declared.answer.Answer.{Answer}
use Rattle.jinja.specs.declared.answer.Answer.TheVariants as answer
use Rattle.jinja.specs.declared.answer.Refusal.{Refusal}
use Rattle.jinja.specs.declared.answer.Refusal.TheVariants as refusal
use Rattle.jinja.specs.declared.answer.Phase.{Phase}
use Rattle.jinja.specs.declared.answer.Phase.TheVariants.{Idle, Running, Finished, Uncaught}
use Rattle.jinja.specs.declared.answer.Reply.{Reply}
use Rattle.jinja.specs.Options.{◌>>=◌}
use Rattle.jinja.specs.Program.{Program}
use Rattle.jinja.specs.Classes.{maybe}
use Rattle.jinja.specs.Lookups.{fields_of, method_at}
use Rattle.jinja.specs.Handlers.{null_pointer, class_cast, out_of_memory}
use Rattle.jinja.specs.Step.{Frame}
use Rattle.jinja.specs.State.{State, step}
use Rattle.jinja.specs.Calls.{begin, Call, begins, steps, runs, ends, perform}

-- what follows an answer, where it is 0
abbrev pub if_stepped : {A : Type 0} → Answer → List A → List A
if_stepped answer.Stepped xs = xs
if_stepped answer.Finished xs = []
if_stepped answer.Uncaught xs = []
if_stepped answer.FramesFull xs = []
if_stepped answer.Unsound xs = []

-- what a call brings, where an idle machine refuses it
abbrev pub if_awake : {A : Type 0} → Phase → List A → List A
if_awake Idle xs = []
if_awake Running xs = xs
if_awake Finished xs = xs
if_awake Uncaught xs = xs

-- what befalls the objects: the heap is emptied, the four objects of a begin of class c are there, an instruction is stepped
pub data Event : Type 0 where
  empties : Event
  opens : ℕ → Event
  does : Instr → Event

-- a begin that passes its argument checks empties the heap, also where it then finds no space
abbrev pub begin_events : ℕ → Result ℕ Refusal → List Event
begin_events c (Ok t) = empties ∷ opens c ∷ []
begin_events c (Err refusal.Busy) = []
begin_events c (Err refusal.Unseen) = []
begin_events c (Err refusal.Argument) = []
begin_events c (Err refusal.NoSpace) = empties ∷ []
begin_events c (Err refusal.Idle) = []
begin_events c (Err refusal.Ticket) = []

module _ (P : Program) where
  abbrev pub after : List Call → State → State
  after [] s = s
  after (c ∷ cs) s = after cs (perform P c s).1

  abbrev pub replies : List Call → State → List Reply
  replies [] s = []
  replies (c ∷ cs) s = (perform P c s).0 ∷ replies cs (perform P c s).1

  -- the answer of each single step of a run
  abbrev pub run_answers : ℕ → State → List Answer
  run_answers zero s = []
  run_answers (suc n) s = (step P s).0 ∷ if_stepped (step P s).0 (run_answers n (step P s).1)

  abbrev pub call_answers : Call → State → List Answer
  call_answers (begins c m args) s = []
  call_answers steps s = if_awake s.phase ((step P s).0 ∷ [])
  call_answers (runs n) s = if_awake s.phase (run_answers n s)
  call_answers (ends t) s = []

  -- the answer of each single step, alone or in a run
  abbrev pub step_answers : List Call → State → List Answer
  step_answers [] s = []
  step_answers (c ∷ cs) s = call_answers c s ++ step_answers cs (perform P c s).1

  -- the instruction of the top frame
  abbrev pub instr_at : List Frame → Option Instr
  instr_at [] = None
  instr_at (f ∷ rest) = method_at P f.method >>= λ M. slice_get M.method.code f.pc

  -- a step that answers 0 does the instruction that it meets
  abbrev pub step_events : State → List Event
  step_events s = if_stepped (step P s).0 (maybe (instr_at s.frames) [] (λ i. does i ∷ []))

  abbrev pub run_events : ℕ → State → List Event
  run_events zero s = []
  run_events (suc n) s = step_events s ++ if_stepped (step P s).0 (run_events n (step P s).1)

  abbrev pub call_events : Call → State → List Event
  call_events (begins c m args) s = begin_events c (begin P c m args s).0
  call_events steps s = if_awake s.phase (step_events s)
  call_events (runs n) s = if_awake s.phase (run_events n s)
  call_events (ends t) s = []

  abbrev pub events : List Call → State → List Event
  events [] s = []
  events (c ∷ cs) s = call_events c s ++ events cs (perform P c s).1

  -- what objects of these classes cost on a line together
  abbrev pub cost_of_made : ChargeLine → List ℕ → ℕ
  cost_of_made l cs = sum_by (λ c. cost l (length (fields_of P c))) cs

  -- an object of class c on top of those made passes no line's total
  abbrev pub has_room_for : List ChargeLine → List ℕ → ℕ → Bool
  has_room_for [] cs c = true
  has_room_for (l ∷ ls) cs c = nat_le (cost_of_made l cs + cost l (length (fields_of P c))) l.total && has_room_for ls cs c

  -- New of class c makes one object, unless that would pass a total
  abbrev pub with_made : List ChargeLine → Instr → List ℕ → List ℕ
  with_made ls (Load n) cs = cs
  with_made ls (Store n) cs = cs
  with_made ls (Push v) cs = cs
  with_made ls Pop cs = cs
  with_made ls (New c) cs = cond (has_room_for ls cs c) (cs ++ c ∷ []) cs
  with_made ls (Getfield f c) cs = cs
  with_made ls (Putfield f c) cs = cs
  with_made ls (Checkcast c) cs = cs
  with_made ls (Invoke m n) cs = cs
  with_made ls Return cs = cs
  with_made ls IAdd cs = cs
  with_made ls CmpEq cs = cs
  with_made ls (IfFalse z) cs = cs
  with_made ls (Goto z) cs = cs
  with_made ls Throw cs = cs

  -- the classes of the objects made since the heap was last emptied, where cs were before
  abbrev pub objects_made : List ChargeLine → List Event → List ℕ → List ℕ
  objects_made ls [] cs = cs
  objects_made ls (empties ∷ es) cs = objects_made ls es []
  objects_made ls (opens c ∷ es) cs = objects_made ls es (null_pointer ∷ class_cast ∷ out_of_memory ∷ c ∷ [])
  objects_made ls (does i ∷ es) cs = objects_made ls es (with_made ls i cs)
