use Rattle.std.proofs.Common.{◌≤◌, ap, ◌∙◌, arith}
use Rattle.jinja.specs.Lookups.{method_at}
use Rattle.tables.specs.Views.{program_of}
use Rattle.engine.specs.Limits.{cell_limit}
use Rattle.engine.specs.Views.{frame_of}
use Rattle.engine.proofs.Reading.{held_length}
use Rattle.engine.proofs.Handlers.{lost_method, found_method}
use Rattle.engine.proofs.Returns.{resumes_lost, resumes_short, resumes_there, resumes_high}
use Rattle.engine.proofs.returning.resumes.Goals as goal

pub returns-in_err-method : goal.returns-in_err-method
returns-in_err-method c rest =
    let P = program_of c.args.program.tables.now in
    let f = c.args.frame.now in
    rw c.from_residual.ensures (resumes_lost P c.args.n (frame_of f) rest (lost_method (method_at P f.method) (c.method.ensures.numbered c.args.program.whole ∙ c.in_err-method.ensures.spans.method)))

pub returns-then-n-frame : goal.returns-then-n-frame
returns-then-n-frame c rest =
    let P = program_of c.args.program.tables.now in
    let f = c.args.frame.now in
    let w = found_method (method_at P f.method) (c.method.ensures.numbered c.args.program.whole ∙ c.in_ok-method.ensures.spans.method) in
    let l = held_length f.cells f.height (omega arith) in
    resumes_short P c.args.n (frame_of f) rest w.1 (omega (arith, l))

pub returns-then-frame-n : goal.returns-then-frame-n
returns-then-frame-n c rest =
    let P = program_of c.args.program.tables.now in
    let f = c.args.frame.now in
    let w = found_method (method_at P f.method) (c.method.ensures.numbered c.args.program.whole ∙ c.in_ok-method.ensures.spans.method) in
    let l = held_length f.cells f.height (omega arith) in
    let high = ap (λ m. m.height) w.2 in
    resumes_high P c.args.n (frame_of f) rest w.1 (omega (arith, l)) (omega (arith, l, high))

pub returns : goal.returns
returns c rest =
    let P = program_of c.args.program.tables.now in
    let f = c.args.frame.now in
    let w = found_method (method_at P f.method) (c.method.ensures.numbered c.args.program.whole ∙ c.in_ok-method.ensures.spans.method) in
    let l = held_length f.cells f.height (omega arith) in
    let high = ap (λ m. m.height) w.2 in
    let fit : w.0.method.height ≤ cell_limit = c.args.program.fitting.heights f.method w.0 w.1 in
    resumes_there P c.args.n (frame_of f) rest w.1 (omega (arith, l)) (omega (arith, l)) fit (omega (arith, l, high))
