-- The promise about histories. Assumes nothing.
use Rattle.std.specs.Prelude.{◌≡◌, ℕ, ◌≤◌, List, [], Some, ◌≢◌}
use Rattle.std.specs.List.{slice_get}
use Rattle.heap.specs.declared.charge.ChargeLine.{ChargeLine}
use Rattle.heap.specs.Meaning.{Meaning, used}
use Rattle.jinja.specs.declared.answer.Answer.{Answer}
use Rattle.jinja.specs.Answers.{answer_number}
use Rattle.jinja.specs.Program.{Program}
use Rattle.jinja.specs.WellFormed.{WellFormed}
use Rattle.jinja.specs.Rows.{Table}
use Rattle.jinja.specs.WellTyping.{WellTypings, LeastTypings}
use Rattle.jinja.specs.Step.{Frame}
use Rattle.jinja.specs.State.{made}
use Rattle.jinja.specs.Calls.{Call}
use Rattle.jinja.specs.Fits.{ObjectsFit, Exceptions, Stand}
use Rattle.jinja.specs.History.{after, step_answers, events, cost_of_made, objects_made}

-- where frames stand, the exception objects do, the top frame fits its row, and each lower one fits its own and waits at
-- an Invoke on an object whose class sees the next one's method, with as many arguments
pub data FramesFit (P : Program) (Φ : ℕ → Table) (h : Meaning) : List Frame → Type 0 where
  no_frames : FramesFit P Φ h []
  frames_stand : {b : ℕ} {fs : List Frame} → Exceptions h → Stand P Φ h b fs → FramesFit P Φ h fs

-- a line's use is what the objects made cost on it, and is within its total
pub record Charged (P : Program) (h : Meaning) (made_classes : List ℕ) (l : ChargeLine) : Type 0 where
  pub use_is_cost : used l h.objects ≡ cost_of_made P l made_classes
  pub within_total : used l h.objects ≤ l.total

-- of the state that a history leaves, and of what it answered; Φ are the least well-typings
pub record Promise (P : Program) (Φ : ℕ → Table) (h : Meaning) (number : ℕ) (calls : List Call) : Type 0 where
  -- no single step, alone or in a run, answered unsound
  pub sound : (i : ℕ) (x : Answer) → slice_get (step_answers P calls (made h number)) i ≡ Some x → answer_number x ≢ 4
  pub frames_fit : FramesFit P Φ (after P calls (made h number)).heap (after P calls (made h number)).frames
  pub objects_fit : ObjectsFit P (after P calls (made h number)).heap
  pub lines_stay : (after P calls (made h number)).heap.lines ≡ h.lines
  pub charged : (i : ℕ) (l : ChargeLine) → slice_get h.lines i ≡ Some l → Charged P (after P calls (made h number)).heap (objects_made P h.lines (events P calls (made h number)) []) l

-- for every program that keeps the rules, given the least well-typing of each of its methods, whatever the
-- lines of the heap, and every list of calls
abbrev pub HistoriesKeep : Type 0
HistoriesKeep = (P : Program) → WellFormed P → (Φ : ℕ → Table) → LeastTypings P Φ → (h : Meaning) (number : ℕ) (calls : List Call) → Promise P Φ h number calls

-- the least well-typings of all methods, and the promise with them: whatever the lines of the heap, and for every list of calls
pub record HistoriesKept (P : Program) : Type 0 where
  pub typings : ℕ → Table
  pub least : LeastTypings P typings
  pub promise : (h : Meaning) (number : ℕ) (calls : List Call) → Promise P typings h number calls

-- for every program that keeps the rules and whose methods all have well-typings
abbrev pub TypableHistoriesKeep : Type 0
TypableHistoriesKeep = (P : Program) → WellFormed P → (Φ : ℕ → Table) → WellTypings P Φ → HistoriesKept P
