use Rattle.machine.specs.States.{program, state}
use Rattle.machine.proofs.Runs.{run_one}
use Rattle.machine.proofs.machine.Machine.act.Goals as goal

pub returns : goal.returns
returns g c =
    record {
      state = run_one (program c.args.self.now) (state g.H.Heap.meaning c.args.self.now) _ c.go.result c.go.ensures.state;
      program = c.go.ensures.program;
    }
