-- The nodes so far have the row of a node that nothing has reached, and none is marked.
use Rattle.std.proofs.Common.{◌≡◌, ℕ, ◌<◌, false}
use Rattle.walk.specs.Marks.{marked}
use Rattle.walk.specs.Rows.{rest}
use Rattle.walk.proofs.Workspace.{Cleared}
use Rattle.walk.proofs.walking.Walk.begin.Given as goal

abbrev pub invariant-loop-i : goal.invariant-loop-i
invariant-loop-i g l =
    let m = g.A.Analysis.framework l.analysis in
    ((j : ℕ) → j < l.i → Cleared m l.walk.workspace.now j) × (rest m l.walk.workspace.now ≡ rest m l.initial.walk.workspace.now)
    × ((j : ℕ) → marked l.walk.marks.words j ≡ false) × (l.walk.analysis ≡ l.initial.walk.analysis) × (l.walk.workspace.ghost_name ≡ l.initial.walk.workspace.ghost_name)
