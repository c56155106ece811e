-- Laws of the machine in the subject's words, of every program and every state. Assumes nothing.
use Rattle.std.specs.Prelude.{◌≡◌, ℕ, suc, ◌+◌, ◌<◌, ◌≤◌, min, true, List, ◌∷◌, length, Some, None, ◌≢◌}
use Rattle.std.specs.List.{slice_get}
use Rattle.heap.specs.declared.value.Value.{Value}
use Rattle.heap.specs.declared.value.Value.TheVariants as value
use Rattle.heap.specs.Meaning.{Meaning}
use Rattle.heap.specs.Calls.{after_empty}
use Rattle.jinja.specs.declared.ty.Ty.{Ty}
use Rattle.jinja.specs.declared.answer.Answer.{Answer}
use Rattle.jinja.specs.declared.answer.Answer.TheVariants as answer
use Rattle.jinja.specs.declared.answer.Refusal.{Refusal}
use Rattle.jinja.specs.declared.answer.Refusal.TheVariants as refusal
use Rattle.jinja.specs.declared.answer.Phase.TheVariants.{Finished, Uncaught}
use Rattle.jinja.specs.declared.answer.Ran.{Ran}
use Rattle.jinja.specs.declared.answer.Reply.TheVariants as reply
use Rattle.jinja.specs.Program.{Program}
use Rattle.jinja.specs.Values.{fit_all, same_value}
use Rattle.jinja.specs.Step.{Frame}
use Rattle.jinja.specs.State.{State, most_steps, step, run}
use Rattle.jinja.specs.Calls.{end, Call, perform}
use Rattle.jinja.specs.Look.{from_bottom}

module _ (P : Program) where
  -- n steps more behind a run that has answered x last: none, unless x is 0
  abbrev pub and_then : Answer → ℕ → Ran × State → Ran × State
  and_then answer.Stepped n o = (record { count = o.0.count + (run P n o.1).0.count; last = (run P n o.1).0.last }, (run P n o.1).1)
  and_then answer.Finished n o = o
  and_then answer.Uncaught n o = o
  and_then answer.FramesFull n o = o
  and_then answer.Unsound n o = o

pub record MachineLaws (P : Program) : Type 0 where
  -- running a + b steps is running a and then b
  pub runs_add : (a b : ℕ) (s : State) → run P (a + b) s ≡ and_then P (run P a s).0.last b (run P a s)
  -- a run counts its steps, and so does the machine, up to the greatest count
  pub counts : (n : ℕ) (s : State) → s.steps ≤ most_steps → (run P n s).1.steps ≡ min (s.steps + (run P n s).0.count) most_steps
  -- only a step that answers 0 changes anything
  pub others_change_nothing : (s : State) → ((step P s).0 ≢ answer.Stepped) → (step P s).1 ≡ s
  -- a run that is over answers the same for ever
  pub finished_stays : (n : ℕ) (s : State) → s.phase ≡ Finished → run P (suc n) s ≡ (record { count = 0; last = answer.Finished }, s)
  pub uncaught_stays : (n : ℕ) (s : State) → s.phase ≡ Uncaught → run P (suc n) s ≡ (record { count = 0; last = answer.Uncaught }, s)
  -- end leaves the heap, and a refusal leaves all, but for a begin that found no space
  pub end_keeps_heap : (t : ℕ) (s : State) → (end P t s).1.heap ≡ s.heap
  pub refusals_change_nothing : (c : Call) (s : State) (e : Refusal) → (perform P c s).0 ≡ reply.Refused e → (e ≢ refusal.NoSpace) → (perform P c s).1 ≡ s

abbrev pub MachineLawsHold : Type 0
MachineLawsHold = (P : Program) → MachineLaws P

-- what begin's arguments may be: in a heap without objects nothing that fits is an address
abbrev pub NoAddressBegins : Type 0
NoAddressBegins = (P : Program) (h : Meaning) (args : List Value) (ts : List Ty) → fit_all P (after_empty h) args ts ≡ true → (i a : ℕ) → slice_get args i ≢ Some (value.Addr a)

-- looking shows something exactly below the count, and what is put on top leaves the rest where it was
pub record LookLaws (A : Type 0) : Type 0 where
  pub shows : (xs : List A) (i : ℕ) → i < length xs → (x : A) × (from_bottom xs i ≡ Some x)
  pub nothing : (xs : List A) (i : ℕ) → length xs ≤ i → from_bottom xs i ≡ None
  pub top_shows : (x : A) (xs : List A) → from_bottom (x ∷ xs) (length xs) ≡ Some x
  pub below_stays : (x : A) (xs : List A) (i : ℕ) → i < length xs → from_bottom (x ∷ xs) i ≡ from_bottom xs i

abbrev pub LookLawsHold : Type 0
LookLawsHold = LookLaws Frame × LookLaws Value

-- CmpEq compares values whole
pub record ValuesWhole : Type 0 where
  pub same : (v w : Value) → same_value v w ≡ true → v ≡ w
  pub itself : (v : Value) → same_value v v ≡ true
