-- Looking at a machine: the phase, and frames and cells counted from the bottom. Assumes nothing.
use Rattle.std.specs.Prelude.{ℕ, suc, ◌-◌, cond, List, length, None, Option, nat_lt}
use Rattle.std.specs.List.{slice_get}
use Rattle.heap.specs.declared.value.Value.{Value}
use Rattle.jinja.specs.declared.answer.Phase.{Phase}
use Rattle.jinja.specs.Options.{◌>>=◌}
use Rattle.jinja.specs.Step.{Frame}
use Rattle.jinja.specs.State.{State}

-- the item at i, the last one being 0
abbrev pub from_bottom : {A : Type 0} → List A → ℕ → Option A
from_bottom xs i = cond (nat_lt i (length xs)) (slice_get xs (length xs - suc i)) None

abbrev pub look_phase : State → Phase
look_phase s = s.phase

-- frame 0 is the one that begin opened
abbrev pub look_frame : State → ℕ → Option Frame
look_frame s i = from_bottom s.frames i

abbrev pub look_cell : State → ℕ → ℕ → Option Value
look_cell s i j = look_frame s i >>= λ f. from_bottom f.stack j

abbrev pub look_register : State → ℕ → ℕ → Option Value
look_register s i j = look_frame s i >>= λ f. slice_get f.registers j
