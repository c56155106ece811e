use Rattle.machine.specs.States.{state}
use Rattle.machine.proofs.Awake.{never_refused}
use Rattle.machine.proofs.machine.Machine.play.Goals as goal

pub unreachable-requires : goal.unreachable-requires
unreachable-requires g c = never_refused c.args.class c.args.name c.args.n c.args.args.now (state g.H.Heap.meaning c.args.self.now) c.begin.ensures.program c.go-ran.ensures.program c.in_ok-ticket.ensures.state c.go-ran.ensures.state c.in-Err.ensures.state
