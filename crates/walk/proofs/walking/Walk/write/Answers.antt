-- The part that is written is the row of the node.
use Rattle.std.proofs.Common.{◌≡◌, sym, ap, subst, rules}
use Rattle.walk.proofs.Workspace.{row_written}
use Rattle.walk.proofs.walking.Walk.write.Goals as goal

pub returns-clause-written : goal.returns-clause-written
returns-clause-written g c =
    let s = c.args.self.now in
    let m = g.A.Analysis.framework s.analysis.now in
    let r = c.copy_from_slice.new.self in
    let e : r ≡ c.args.row.now = search rules in
    row_written m s.workspace.now c.args.i c.requires.node s.room r (search rules) (m.read c.args.row.now) (subst m.shows (sym e) c.requires.shows) (ap m.read e)
