-- The state that a machine in memory stands for. Assumes nothing.
use Rattle.heap.specs.Meaning.{Meaning}
use Rattle.jinja.specs.Program.{Program}
use Rattle.jinja.specs.State.{State}
use Rattle.verifier.specs.Accepted.{accepted_program}
use Rattle.engine.specs.Views.{frames_of}
use Rattle.machine.specs.declared.machine.Machine.{Machine}

module _ {H : Type 0} where
  abbrev pub program : Machine H → Program
  program m = accepted_program m.accepted

  abbrev pub state : (H → Meaning) → Machine H → State
  state meaning m = record {
    phase = m.phase;
    frames = frames_of m.frames;
    heap = meaning m.heap;
    steps = m.steps;
    outcome = m.outcome;
    number = m.number;
  }
