-- The machine's state, and steps as functions of it. Assumes nothing.
use Rattle.std.specs.Prelude.{ℕ, zero, suc, ◌+◌, ◌-◌, ◌^◌, min, List, [], Some, None, Option}
use Rattle.heap.specs.Meaning.{Meaning}
use Rattle.heap.specs.Calls.{after_empty}
use Rattle.jinja.specs.declared.answer.Answer.{Answer}
use Rattle.jinja.specs.declared.answer.Answer.TheVariants as answer
use Rattle.jinja.specs.declared.answer.Phase.{Phase}
use Rattle.jinja.specs.declared.answer.Phase.TheVariants.{Idle, Running, Finished, Uncaught}
use Rattle.jinja.specs.declared.answer.Outcome.{Outcome}
use Rattle.jinja.specs.declared.answer.Outcome.TheVariants.{Nothing, Returned, Threw}
use Rattle.jinja.specs.declared.answer.Ran.{Ran}
use Rattle.jinja.specs.Program.{Program}
use Rattle.jinja.specs.Step.{Frame, Next, goes, returned, threw, frames_full, next_step}

pub record State : Type 0 where
  pub phase : Phase
  -- the top one first
  pub frames : List Frame
  pub heap : Meaning
  -- answered 0 since begin
  pub steps : ℕ
  pub outcome : Outcome
  -- of the machine, and of its tickets
  pub number : ℕ

-- a machine over an emptied heap
abbrev pub made : Meaning → ℕ → State
made h n = record { phase = Idle; frames = []; heap = after_empty h; steps = 0; outcome = Nothing; number = n }

-- the count of steps is held at its greatest
abbrev pub most_steps : ℕ
most_steps = 2 ^ 64 - 1

abbrev pub ticked : State → ℕ
ticked s = min (s.steps + 1) most_steps

-- a step was answered 0: the run goes on, or is over and has no frames
abbrev pub running : State → Meaning → List Frame → State
running s h fs = record { phase = Running; frames = fs; heap = h; steps = ticked s; outcome = Nothing; number = s.number }

abbrev pub over : State → Phase → Outcome → State
over s p o = record { phase = p; frames = []; heap = s.heap; steps = ticked s; outcome = o; number = s.number }

abbrev pub settled : State → Option Next → Answer × State
settled s None = (answer.Unsound, s)
settled s (Some (goes h fs)) = (answer.Stepped, running s h fs)
settled s (Some (returned v)) = (answer.Stepped, over s Finished (Returned v))
settled s (Some (threw a)) = (answer.Stepped, over s Uncaught (Threw a))
settled s (Some frames_full) = (answer.FramesFull, s)

module _ (P : Program) where
  -- one step of a machine that is not idle
  abbrev pub step_in : Phase → State → Answer × State
  step_in Idle s = (answer.Unsound, s)
  step_in Running s = settled s (next_step P s.heap s.frames)
  step_in Finished s = (answer.Finished, s)
  step_in Uncaught s = (answer.Uncaught, s)

  abbrev pub step : State → Answer × State
  step s = step_in s.phase s

  -- the next step answered and left t, and the rest of the run is o
  abbrev pub run_on : Answer → State → Ran × State → Ran × State
  run_on answer.Stepped t o = (record { count = 1 + o.0.count; last = o.0.last }, o.1)
  run_on answer.Finished t o = (record { count = 0; last = answer.Finished }, t)
  run_on answer.Uncaught t o = (record { count = 0; last = answer.Uncaught }, t)
  run_on answer.FramesFull t o = (record { count = 0; last = answer.FramesFull }, t)
  run_on answer.Unsound t o = (record { count = 0; last = answer.Unsound }, t)

  -- n steps, or until one answers other than 0: how many answered 0, and the last answer
  abbrev pub run : ℕ → State → Ran × State
  run zero s = (record { count = 0; last = answer.Stepped }, s)
  run (suc n) s = run_on (step s).0 (step s).1 (run n (step s).1)
