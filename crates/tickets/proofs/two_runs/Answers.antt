use Rattle.std.proofs.Common.{[], refl}
use Rattle.machine.specs.States.{state}
use Rattle.machine.proofs.Awake.{never_refused}
use Rattle.tickets.proofs.two_runs.Goals as goal

pub unreachable-requires : goal.unreachable-requires
unreachable-requires g c = never_refused 4 7 0 [] (state g.H.Heap.meaning c.args.machine.now) refl c.begin.ensures.program c.in_ok-first.ensures.state refl c.in-Err.ensures.state

pub unreachable-requires-in-Err-end : goal.unreachable-requires-in-Err-end
unreachable-requires-in-Err-end g c = never_refused 4 7 0 [] (state g.H.Heap.meaning c.end.new.self) refl c.begin-2.ensures.program c.in_ok-second.ensures.state refl c.in-Err-end.ensures.state
