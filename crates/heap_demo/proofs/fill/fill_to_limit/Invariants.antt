use Rattle.std.proofs.Common.{◌≡◌, ◌-◌, ◌≤◌}
use Rattle.heap.specs.Lawful.{word_limit}
use Rattle.heap.specs.Totals.{KeepsLines}
use Rattle.heap_demo.specs.Filled.{holding}
use Rattle.heap_demo.proofs.fill.fill_to_limit.Given as goal

abbrev pub invariant-loop-taken : goal.invariant-loop-taken
invariant-loop-taken g l =
    (g.H.Heap.meaning l.heap ≡ holding (g.H.Heap.meaning l.initial.heap).lines l.taken l.class l.row)
    × KeepsLines (g.H.Heap.meaning l.heap)
    × (l.taken ≤ word_limit)

abbrev pub decreases-loop-taken : goal.decreases-loop-taken
decreases-loop-taken g l = word_limit - l.taken
