-- The part that is joined into is the row of the node, which is marked where that changed it.
use Rattle.std.proofs.Common.{refl, ap, inl, inr, rules}
use Rattle.walk.proofs.Workspace.{row_joined, row_changed, shown_written}
use Rattle.walk.proofs.walking.Walk.raise.Goals as goal

pub returns-then-join : goal.returns-then-join
returns-then-join g c =
    let s = c.args.self.now in
    let m = g.A.Analysis.framework s.analysis.now in
    let xs = s.workspace.now in
    let k = c.args.k in
    let r = c.join.new.row in
    let w = row_joined m xs k c.requires.node s.room r (search rules) (m.read c.args.sent.now) c.join.ensures.shows c.join.ensures.means in
    let changed = row_changed m xs k c.requires.node s.room r (search rules) c.join.result c.join.ensures.changed in
    let told = rw c.if-join.true at changed in
    let t = c.set.ensures in
    record { shown = shown_written m w c.requires.shown; raised = record { here = w.means; other = λ j ne. ap m.read (w.other j ne); others = t.other; told = inl (t.here, told) }; behind = w.behind; analysis = refl; same = refl }

pub returns-else-join : goal.returns-else-join
returns-else-join g c =
    let s = c.args.self.now in
    let m = g.A.Analysis.framework s.analysis.now in
    let xs = s.workspace.now in
    let k = c.args.k in
    let r = c.join.new.row in
    let w = row_joined m xs k c.requires.node s.room r (search rules) (m.read c.args.sent.now) c.join.ensures.shows c.join.ensures.means in
    let changed = row_changed m xs k c.requires.node s.room r (search rules) c.join.result c.join.ensures.changed in
    let told = rw c.if-join.false at changed in
    record { shown = shown_written m w c.requires.shown; raised = record { here = w.means; other = λ j ne. ap m.read (w.other j ne); others = λ j ne. refl; told = inr (refl, told) }; behind = w.behind; analysis = refl; same = refl }
