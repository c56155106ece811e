use Rattle.std.proofs.Common.{◌≡◌, length, take, drop}
use Rattle.machine.specs.States.{program, state}
use Rattle.machine.specs.Asked.{all_asked}
use Rattle.jinja.specs.History.{after, replies}
use Rattle.machine.proofs.history.history.Given as goal

abbrev pub invariant-loop-i : goal.invariant-loop-i
invariant-loop-i g l =
    let s = state g.H.Heap.meaning l.initial.machine in
    let P = program l.initial.machine in
    (state g.H.Heap.meaning l.machine ≡ after P (all_asked (take l.i l.calls)) s)
    × (take l.i l.replies ≡ replies P (all_asked (take l.i l.calls)) s)
    × (drop (length l.calls) l.replies ≡ drop (length l.calls) l.initial.replies)
    × (program l.machine ≡ P)
