-- The edges so far are taken.
use Rattle.std.proofs.Common.{◌≡◌}
use Rattle.walk.specs.Rows.{rest, table}
use Rattle.walk.specs.Marks.{marked}
use Rattle.walk.specs.Walking.{Underway, Midway}
use Rattle.walk.proofs.walking.Walk.take_edges.Given as goal

abbrev pub invariant-loop-e : goal.invariant-loop-e
invariant-loop-e g l =
    let was = l.initial.self in
    let m = g.A.Analysis.framework was.analysis.now in
    Underway m l.self.workspace.now (marked l.self.marks.words) × Midway m l.i l.e (table m was.workspace.now) (marked was.marks.words) (table m l.self.workspace.now) (marked l.self.marks.words)
    × (rest m l.self.workspace.now ≡ rest m was.workspace.now) × (l.self.analysis ≡ was.analysis) × (l.self.workspace.ghost_name ≡ was.workspace.ghost_name)
