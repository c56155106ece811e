-- The calls of a machine: what each answers in the phase that it meets, and the state that it leaves. Assumes nothing.
use Rattle.std.specs.Prelude.{ℕ, cond, List, [], ◌∷◌, length, Some, None, Ok, Err, Option, Result, ◌==◌}
use Rattle.heap.specs.declared.value.Value.{Value}
use Rattle.heap.specs.Meaning.{Meaning, admits}
use Rattle.heap.specs.Calls.{with_object, after_empty}
use Rattle.jinja.specs.declared.answer.Answer.{Answer}
use Rattle.jinja.specs.declared.answer.Refusal.{Refusal}
use Rattle.jinja.specs.declared.answer.Refusal.TheVariants as refusal
use Rattle.jinja.specs.declared.answer.Phase.{Phase}
use Rattle.jinja.specs.declared.answer.Phase.TheVariants.{Idle, Running, Finished, Uncaught}
use Rattle.jinja.specs.declared.answer.Outcome.TheVariants.{Nothing}
use Rattle.jinja.specs.declared.answer.Ended.{Ended}
use Rattle.jinja.specs.declared.answer.Ran.{Ran}
use Rattle.jinja.specs.declared.answer.Reply.{Reply}
use Rattle.jinja.specs.declared.answer.Reply.TheVariants as reply
use Rattle.jinja.specs.Options.{◌>>=◌, ◌>>◌}
use Rattle.jinja.specs.Program.{Program}
use Rattle.jinja.specs.Classes.{maybe}
use Rattle.jinja.specs.Lookups.{Owned, method_at, sees}
use Rattle.jinja.specs.Handlers.{null_pointer, class_cast, out_of_memory}
use Rattle.jinja.specs.Values.{fit_all, start_row}
use Rattle.jinja.specs.Step.{opened}
use Rattle.jinja.specs.State.{State, step, run}

-- where begin puts this object
abbrev pub this_at : ℕ
this_at = 3

-- the run of the method N, whose number is k, begins
abbrev pub begun : State → Meaning → Owned → ℕ → List Value → State
begun s h N k args = record { phase = Running; frames = opened N k this_at args ∷ []; heap = h; steps = 0; outcome = Nothing; number = s.number }

abbrev pub emptied : State → State
emptied s = record { phase = s.phase; frames = s.frames; heap = after_empty s.heap; steps = s.steps; outcome = s.outcome; number = s.number }

-- the frames go, the heap stays
abbrev pub ended : State → State
ended s = record { phase = Idle; frames = []; heap = s.heap; steps = 0; outcome = Nothing; number = s.number }

module _ (P : Program) where
  -- a new object of class c, where the heap has room
  abbrev pub add_object : Meaning → ℕ → Option Meaning
  add_object h c = admits h (length (start_row P c)) >> Some (with_object h c (start_row P c))

  -- the exception objects at 0 to 2, and this object at 3
  abbrev pub first_objects : Meaning → ℕ → Option Meaning
  first_objects h c = add_object h null_pointer >>= λ h. add_object h class_cast >>= λ h. add_object h out_of_memory >>= λ h. add_object h c

  -- in a heap without objects no address fits anything
  abbrev pub begin_with : ℕ → List Value → ℕ → Owned → State → Result ℕ Refusal × State
  begin_with c args k N s =
      cond (fit_all P (after_empty s.heap) args N.method.params)
      (maybe (first_objects (after_empty s.heap) c) (Err refusal.NoSpace, emptied s) (λ h. (Ok s.number, begun s h N k args)))
      (Err refusal.Argument, s)

  abbrev pub begin_seen : ℕ → List Value → Option ℕ → State → Result ℕ Refusal × State
  begin_seen c args None s = (Err refusal.Unseen, s)
  begin_seen c args (Some k) s = maybe (method_at P k) (Err refusal.Unseen, s) (λ N. begin_with c args k N s)

  abbrev pub begin_in : Phase → ℕ → ℕ → List Value → State → Result ℕ Refusal × State
  begin_in Idle c m args s = begin_seen c args (sees P c m) s
  begin_in Running c m args s = (Err refusal.Busy, s)
  begin_in Finished c m args s = (Err refusal.Busy, s)
  begin_in Uncaught c m args s = (Err refusal.Busy, s)

  -- a run of the method that class c sees by the name m; answered with the number of its ticket
  abbrev pub begin : ℕ → ℕ → List Value → State → Result ℕ Refusal × State
  begin c m args s = begin_in s.phase c m args s

  -- what a call that an idle machine refuses answers in the other phases
  abbrev pub unless_idle : {A : Type 0} → Phase → State → A × State → Result A Refusal × State
  unless_idle Idle s o = (Err refusal.Idle, s)
  unless_idle Running s o = (Ok o.0, o.1)
  unless_idle Finished s o = (Ok o.0, o.1)
  unless_idle Uncaught s o = (Ok o.0, o.1)

  abbrev pub step_call : State → Result Answer Refusal × State
  step_call s = unless_idle s.phase s (step P s)

  abbrev pub run_call : ℕ → State → Result Ran Refusal × State
  run_call n s = unless_idle s.phase s (run P n s)

  abbrev pub end_with : ℕ → State → Result Ended Refusal × State
  end_with t s = cond (t == s.number) (Ok (record { phase = s.phase; steps = s.steps; outcome = s.outcome }), ended s) (Err refusal.Ticket, s)

  abbrev pub end_in : Phase → ℕ → State → Result Ended Refusal × State
  end_in Idle t s = (Err refusal.Idle, s)
  end_in Running t s = end_with t s
  end_in Finished t s = end_with t s
  end_in Uncaught t s = end_with t s

  -- the ticket of number t comes back
  abbrev pub end : ℕ → State → Result Ended Refusal × State
  end t s = end_in s.phase t s

-- a call with all that is handed in
pub data Call : Type 0 where
  begins : ℕ → ℕ → List Value → Call
  steps : Call
  runs : ℕ → Call
  ends : ℕ → Call

-- an accepted call's reply, or the refusal
abbrev pub replied : {A : Type 0} → (A → Reply) → Result A Refusal → Reply
replied f (Ok a) = f a
replied f (Err e) = reply.Refused e

abbrev pub perform : Program → Call → State → Reply × State
perform P (begins c m args) s = (replied reply.Began (begin P c m args s).0, (begin P c m args s).1)
perform P steps s = (replied reply.Stepped (step_call P s).0, (step_call P s).1)
perform P (runs n) s = (replied reply.Ran (run_call P n s).0, (run_call P n s).1)
perform P (ends t) s = (replied reply.Ended (end P t s).0, (end P t s).1)
