use Rattle.std.proofs.Common.{◌≤◌, length, sym, ap, ◌∙◌, arith}
use Rattle.std.proofs.lemmas.Bool.{false≢true}
use Rattle.stack.specs.Stacked.{held}
use Rattle.jinja.specs.Lookups.{method_at}
use Rattle.tables.specs.Views.{program_of}
use Rattle.engine.specs.Limits.{cell_limit}
use Rattle.engine.specs.Views.{frame_of}
use Rattle.engine.proofs.Reading.{held_length, lowest_held}
use Rattle.engine.proofs.Handlers.{found_method, lands_short, lands_there, lands_past}
use Rattle.engine.proofs.throwing.lands.Goals as goal

pub returns-then-depth-frame : goal.returns-then-depth-frame
returns-then-depth-frame c =
    let P = program_of c.args.program.tables.now in
    let f = c.args.frame.now in
    let w = found_method (method_at P f.method) (c.method.ensures.numbered c.args.program.whole ∙ c.in_ok-method.ensures.spans.method) in
    let l = held_length f.cells f.height (omega arith) in
    record {
      lands = lands_short P (frame_of f) c.args.handler (held f.cells c.args.handler.depth) w.1 (omega (arith, l));
      low = λ e. absurd (false≢true e);
    }

pub returns-then-target-size : goal.returns-then-target-size
returns-then-target-size c =
    let P = program_of c.args.program.tables.now in
    let f = c.args.frame.now in
    let x = c.args.handler in
    let s = c.in_ok-method.ensures.spans.method in
    let w = found_method (method_at P f.method) (c.method.ensures.numbered c.args.program.whole ∙ s) in
    let l = held_length f.cells f.height (omega arith) in
    let high = ap (λ m. m.height) w.2 in
    let is = rw s at c.code_of-size.ensures in
    let size = ap length (is ∙ sym (ap (λ m. m.code) w.2)) in
    let k = c.if-depth-method.false in
    record {
      lands = lands_past P (frame_of f) x (held f.cells x.depth) w.1 (omega (arith, l)) (omega (arith, high)) (omega (arith, size));
      low = λ e. absurd (false≢true e);
    }

pub returns : goal.returns
returns c =
    let P = program_of c.args.program.tables.now in
    let f = c.args.frame.now in
    let x = c.args.handler in
    let s = c.in_ok-method.ensures.spans.method in
    let w = found_method (method_at P f.method) (c.method.ensures.numbered c.args.program.whole ∙ s) in
    let l = held_length f.cells f.height (omega arith) in
    let high = ap (λ m. m.height) w.2 in
    let is = rw s at c.code_of-size.ensures in
    let size = ap length (is ∙ sym (ap (λ m. m.code) w.2)) in
    let k = c.if-depth-method.false in
    let fit : w.0.method.height ≤ cell_limit = c.args.program.fitting.heights f.method w.0 w.1 in
    record {
      lands = lands_there P (frame_of f) x (held f.cells x.depth) w.1 (omega (arith, l)) (omega (arith, high)) (lowest_held f.cells f.height x.depth (omega arith) (omega arith)) (omega (arith, size));
      low = λ _. omega (arith, high, fit);
    }
