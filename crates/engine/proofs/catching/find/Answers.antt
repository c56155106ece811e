use Rattle.std.proofs.Common.{◌≡◌, ◌+◌, ◌-◌, Some, sym, ap, ◌∙◌, arith}
use Rattle.jinja.specs.Step.{unwind}
use Rattle.tables.specs.Views.{program_of}
use Rattle.engine.specs.Views.{frame_of, lowest_frames}
use Rattle.engine.specs.Catching.{catch_top}
use Rattle.engine.proofs.Tops.{lowest_read}
use Rattle.engine.proofs.Handlers.{lost, past, here}
use Rattle.engine.proofs.catching.find.Goals as goal

pub returns-in_err-handler : goal.returns-in_err-handler
returns-in_err-handler c =
    let P = program_of c.args.program.tables.now in
    let fs = c.args.frames.now in
    let k = c.loop-k.k in
    let d = c.index-frames-k.result in
    rw c.from_residual.ensures
    (λ h a.
    c.loop-k.invariant h a ∙ ap (unwind P h a c.args.c) (lowest_read fs k d c.loop-k-test.true (omega arith) c.index-frames-k.is)
    ∙ lost P h a c.args.c (frame_of d) (lowest_frames fs (k - 1)) c.in_err-handler.ensures)

pub returns-in-Some : goal.returns-in-Some
returns-in-Some c =
    let P = program_of c.args.program.tables.now in
    let fs = c.args.frames.now in
    let k = c.loop-k.k in
    let d = c.index-frames-k.result in
    let x = c.in-Some.handler in
    let one : k - 1 + 1 ≡ k = omega arith in (
      omega arith,
      λ h a.
          c.loop-k.invariant h a ∙ ap (unwind P h a c.args.c) (lowest_read fs k d c.loop-k-test.true (omega arith) c.index-frames-k.is)
          ∙ here P h a c.args.c (frame_of d) (lowest_frames fs (k - 1)) x (ap Some (sym c.in-Some.is) ∙ c.in_ok-handler.ensures)
          ∙ ap (catch_top P h a x) (sym (ap (lowest_frames fs) one ∙ lowest_read fs k d c.loop-k-test.true (omega arith) c.index-frames-k.is)),
    )

pub loop-k-preserved : goal.loop-k-preserved
loop-k-preserved c h a =
    let P = program_of c.args.program.tables.now in
    let fs = c.args.frames.now in
    let k = c.loop-k.k in
    let d = c.index-frames-k.result in
    c.loop-k.invariant h a ∙ ap (unwind P h a c.args.c) (lowest_read fs k d c.loop-k-test.true (omega arith) c.index-frames-k.is)
    ∙ past P h a c.args.c (frame_of d) (lowest_frames fs (k - 1)) (ap Some (sym c.in_default.is) ∙ c.in_ok-handler.ensures)
