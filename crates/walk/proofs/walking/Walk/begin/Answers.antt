-- Each turn clears one more node; then node 0 gets the start, and the mark.
use Rattle.std.proofs.Common.{◌≡◌, ℕ, false, ap, ◌∙◌, arith}
use Rattle.walk.specs.declared.marks.Marks.{Marks}
use Rattle.walk.specs.Marks.{marked}
use Rattle.walk.proofs.Theory.{held_begin, settled_first, inside_first}
use Rattle.walk.proofs.Workspace.{cleared_more, begun}
use Rattle.walk.proofs.walking.Walk.begin.Goals as goal

pub loop-i-preserved : goal.loop-i-preserved
loop-i-preserved g c =
    let m = g.A.Analysis.framework c.args.analysis.now in
    let v = c.loop-i.invariant in
    let ensures = c.write.ensures in
    let t = rw v.3 at ensures in
    let written = t.written in
    let w = rw c.bottom.ensures.means at written in
    (cleared_more m w v.0, w.behind ∙ v.1, λ j. ap (λ (s : Marks). marked s.words j) t.marks ∙ v.2 j, t.analysis, t.same ∙ v.4)

pub returns : goal.returns
returns g c =
    let m = g.A.Analysis.framework c.args.analysis.now in
    let v = c.loop-i.invariant in
    let ensures = c.write-2.ensures in
    let t = rw v.3 at ensures in
    let written = t.written in
    let w = rw c.start.ensures.means at written in
    let b = begun m w (λ j l. v.0 j (omega arith)) in
    let none : (j : ℕ) → marked c.write-2.new.self.marks.words j ≡ false = λ j. ap (λ (s : Marks). marked s.words j) t.marks ∙ v.2 j in
    let set = c.set.ensures in
    let d = marked c.set.new.self.words in
    record {
      underway = record { shown = b.0; held = held_begin m b.1; inside = inside_first m (marked c.write-2.new.self.marks.words) d none set.other c.requires.node };
      settled = settled_first m d b.1 set.here;
      behind = w.behind ∙ v.1;
      analysis = t.analysis;
      same = t.same ∙ v.4;
    }
