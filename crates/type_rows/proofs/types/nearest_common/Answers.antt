-- Each step replaces the higher number, until both are equal.
use Rattle.std.proofs.Common.{sym, refl, ◌∙◌}
use Rattle.jinja.specs.Join.{nearest}
use Rattle.tables.specs.Views.{program_of}
use Rattle.type_rows.proofs.Nearest.{meet_here, meet_right, meet_left}
use Rattle.type_rows.proofs.types.nearest_common.Goals as goal
use Rattle.type_rows.proofs.types.nearest_common.Goals.{then-low-other-2, else-low-other-2}

pub loop-left-init : goal.loop-left-init
unfolding nearest
loop-left-init c = refl

pub loop-left-preserved : goal.loop-left-preserved
loop-left-preserved c =
    let P = program_of c.args.tables.now in
    let l = c.loop-left in
    elim c.if-low-other-2.branch [
      | then-low-other-2 w ↦ rw (w.low-is, w.other-is, w.superclass-other.ensures) (sym (meet_right P l.left l.low l.other c.loop-left-test.true w.if-low-other-2.true) ∙ l.invariant)
      | else-low-other-2 w ↦ rw (w.low-is, w.other-is, w.superclass-low.ensures) (sym (meet_left P l.left l.low l.other c.loop-left-test.true c.if-low-other.true w.if-low-other-2.false) ∙ l.invariant)
    ]

pub returns-else-low-other : goal.returns-else-low-other
returns-else-low-other c = let l = c.loop-left in sym (meet_here (program_of c.args.tables.now) l.left l.low l.other c.if-low-other.false) ∙ l.invariant
