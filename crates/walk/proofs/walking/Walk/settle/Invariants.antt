-- The walk is under way, and each node that is not marked is settled.
use Rattle.std.proofs.Common.{◌≡◌}
use Rattle.walk.specs.Rows.{rest, table}
use Rattle.walk.specs.Marks.{marked}
use Rattle.walk.specs.Walking.{Underway, AllSettled, weight}
use Rattle.walk.proofs.walking.Walk.settle.Given as goal

abbrev pub invariant-loop-i : goal.invariant-loop-i
invariant-loop-i g l =
    let was = l.initial.self in
    let m = g.A.Analysis.framework was.analysis.now in
    Underway m l.self.workspace.now (marked l.self.marks.words) × AllSettled m (marked l.self.marks.words) (table m l.self.workspace.now)
    × (rest m l.self.workspace.now ≡ rest m was.workspace.now) × (l.self.analysis ≡ was.analysis) × (l.self.workspace.ghost_name ≡ was.workspace.ghost_name)

abbrev pub decreases-loop-i : goal.decreases-loop-i
decreases-loop-i g l = let m = g.A.Analysis.framework l.initial.self.analysis.now in weight m (table m l.self.workspace.now) (marked l.self.marks.words)
