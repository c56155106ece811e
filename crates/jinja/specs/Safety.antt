-- Type safety: a state that fits stays one, and no check of the machine fails. Assumes nothing.
use Rattle.std.specs.Prelude.{◌≡◌, ℕ, List, Some, Ok, ◌≢◌}
use Rattle.heap.specs.declared.value.Value.{Value}
use Rattle.heap.specs.Meaning.{Meaning}
use Rattle.jinja.specs.declared.answer.Answer.TheVariants as answer
use Rattle.jinja.specs.declared.answer.Phase.TheVariants.{Idle}
use Rattle.jinja.specs.declared.answer.Outcome.TheVariants.{Returned, Threw}
use Rattle.jinja.specs.Program.{Program}
use Rattle.jinja.specs.Lookups.{Owned, method_at, sees}
use Rattle.jinja.specs.WellFormed.{WellFormed}
use Rattle.jinja.specs.Rows.{Table}
use Rattle.jinja.specs.WellTyping.{WellTypings}
use Rattle.jinja.specs.Values.{class_of}
use Rattle.jinja.specs.State.{State, made, step, run}
use Rattle.jinja.specs.Calls.{begin, end}
use Rattle.jinja.specs.Fits.{Fits, StateFits}

pub record TypeSafe (P : Program) (Φ : ℕ → Table) : Type 0 where
  pub making : (h : Meaning) (number b : ℕ) → StateFits P Φ b (made h number)
  -- a step and a run, not idle
  pub stepping : {b : ℕ} {s : State} → StateFits P Φ b s → (s.phase ≢ Idle) → ((step P s).0 ≢ answer.Unsound) × StateFits P Φ b (step P s).1
  pub running : {b : ℕ} {s : State} (n : ℕ) → StateFits P Φ b s → (s.phase ≢ Idle) → ((run P n s).0.last ≢ answer.Unsound) × StateFits P Φ b (run P n s).1
  -- an accepted begin is of the method that the class sees
  pub beginning : {b : ℕ} {s : State} (c m : ℕ) (args : List Value) → StateFits P Φ b s → (k : ℕ) × StateFits P Φ k (begin P c m args s).1 × ((t : ℕ) → (begin P c m args s).0 ≡ Ok t → sees P c m ≡ Some k)
  pub ending : {b : ℕ} {s : State} (t : ℕ) → StateFits P Φ b s → StateFits P Φ b (end P t s).1
  -- the value of a finished run, and a thrown address
  pub value : {b : ℕ} {v : Value} {N : Owned} (s : State) → StateFits P Φ b s → s.outcome ≡ Returned v → method_at P b ≡ Some N → Fits P s.heap v N.method.result
  pub thrown : {b a : ℕ} (s : State) → StateFits P Φ b s → s.outcome ≡ Threw a → (c : ℕ) × (class_of s.heap a ≡ Some c)

-- for every program that keeps the rules, any well-typings and any lines of the heap
abbrev pub TypeSafety : Type 0
TypeSafety = (P : Program) → WellFormed P → (Φ : ℕ → Table) → WellTypings P Φ → TypeSafe P Φ
