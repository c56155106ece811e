use Rattle.std.proofs.Common.{w16, SFits, rules}
use Rattle.std.proofs.lemmas.Int.{to_z-of_z}
use Rattle.engine.proofs.frame.Frame.local.Goals as goal

pub returns-in-IfFalse : goal.returns-in-IfFalse
returns-in-IfFalse g c P M e s l =
    let z = c.in-IfFalse.offset in
    let f : SFits w16 z = search rules in
    rw c.in-IfFalse.is (rw (to_z-of_z w16 z f) at (c.branch-self.ensures P M s))

pub returns-in-Goto : goal.returns-in-Goto
returns-in-Goto g c P M e s l =
    let z = c.in-Goto.offset in
    let f : SFits w16 z = search rules in
    rw c.in-Goto.is (rw (to_z-of_z w16 z f) at (c.jump.ensures P M s))
