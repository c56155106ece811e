-- A marked node is looked at: it refuses its row, or it is no longer marked and its edges are taken.
use Rattle.std.proofs.Common.{sym, refl, ◌∙◌, arith}
use Rattle.walk.specs.Rows.{table}
use Rattle.walk.specs.Marks.{marked}
use Rattle.walk.proofs.Theory.{unsolvable_from}
use Rattle.walk.proofs.Weight.{weight_clear}
use Rattle.walk.proofs.walking.Walk.settle.Goals as goal

pub returns-then-refuses-clause-answer : goal.returns-then-refuses-clause-answer
returns-then-refuses-clause-answer g c =
    let m = g.A.Analysis.framework c.args.self.now.analysis.now in
    let v = c.loop-i.invariant in
    let i = c.in-Some.i in
    let ensures = c.refuses.ensures in
    let refused = sym (rw v.3 at ensures) ∙ c.if-refuses.true in
    (refl, unsolvable_from m v.0.held i (v.0.inside i c.in-Some.ensures) refused)

pub loop-i-smaller : goal.loop-i-smaller
loop-i-smaller g c =
    let m = g.A.Analysis.framework c.args.self.now.analysis.now in
    let v = c.loop-i.invariant in
    let i = c.in-Some.i in
    let at = c.in-Some.ensures in
    let t = c.clear.ensures in
    let falls = weight_clear m (table m c.loop-i.self.workspace.now) (marked c.loop-i.self.marks.words) (marked c.clear.new.self.words) i (v.0.inside i at) at t.here t.other in
    let ensures = c.take_edges.ensures.done in
    let done = rw v.3 at ensures in
    let less = done.less in
    omega arith
