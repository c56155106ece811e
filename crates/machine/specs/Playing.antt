-- A run from begin to end. Assumes nothing.
use Rattle.std.specs.Prelude.{ℕ, List, Ok, Err, Result}
use Rattle.heap.specs.declared.value.Value.{Value}
use Rattle.jinja.specs.declared.answer.Refusal.{Refusal}
use Rattle.jinja.specs.declared.answer.Ended.{Ended}
use Rattle.jinja.specs.Program.{Program}
use Rattle.jinja.specs.State.{State, run}
use Rattle.jinja.specs.Calls.{begin, ended}
use Rattle.machine.specs.declared.played.Played.{Played}

-- what end answers of a run in this state
abbrev pub ending : State → Ended
ending s = record { phase = s.phase; steps = s.steps; outcome = s.outcome }

module _ (P : Program) (n : ℕ) where
  -- a begin was answered so and left the state s: a run that was begun goes n steps on, and ends
  abbrev pub play_on : Result ℕ Refusal → State → Result Played Refusal × State
  play_on (Ok t) s = (Ok (record { ran = (run P n s).0; ended = ending (run P n s).1 }), ended (run P n s).1)
  play_on (Err e) s = (Err e, s)

abbrev pub play : Program → ℕ → ℕ → List Value → ℕ → State → Result Played Refusal × State
play P c m args n s = play_on P n (begin P c m args s).0 (begin P c m args s).1
