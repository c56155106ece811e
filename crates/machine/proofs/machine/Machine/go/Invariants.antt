use Rattle.std.proofs.Common.{◌≡◌, ◌-◌}
use Rattle.jinja.specs.State.{run}
use Rattle.machine.specs.States.{program, state}
use Rattle.machine.proofs.Runs.{plus}
use Rattle.machine.proofs.machine.Machine.go.Given as goal

abbrev pub invariant-loop-count : goal.invariant-loop-count
invariant-loop-count g l =
    let P = program l.initial.self in
    (run P l.n (state g.H.Heap.meaning l.initial.self) ≡ plus l.count (run P (l.n - l.count) (state g.H.Heap.meaning l.self)))
    × (program l.self ≡ P)
