use Rattle.std.proofs.Common.{◌≡◌, ◌*◌, ◌≤◌, take}
use Rattle.heap.specs.Meaning.{used}
use Rattle.heap.specs.Lawful.{cost_limit}
use Rattle.heap.proofs.usage.used.Given as goal

abbrev pub invariant-loop-addr : goal.invariant-loop-addr
invariant-loop-addr g l = (l.sum ≡ used l.line (take l.addr (g.H.Heap.meaning l.heap).objects)) × (l.sum ≤ cost_limit * l.addr)
