use Rattle.std.proofs.Common.{◌≡◌, true, sym, ap, ◌∙◌, arith}
use Rattle.jinja.specs.Lookups.{method_at}
use Rattle.jinja.specs.Values.{fit_all}
use Rattle.tables.specs.Views.{program_of}
use Rattle.engine.specs.Views.{frames_of}
use Rattle.engine.specs.Stepping.{top_stack}
use Rattle.engine.specs.Calling.{arguments, fresh, above}
use Rattle.engine.proofs.Arguments.{arguments_length}
use Rattle.engine.proofs.Handlers.{found_method}
use Rattle.engine.proofs.Records.{record_params}
use Rattle.engine.proofs.Fits.{fit_length}
use Rattle.engine.proofs.Calls.{call_low, call_enters}
use Rattle.engine.proofs.calling.call.Goals as goal

pub returns-then-height-n : goal.returns-then-height-n
returns-then-height-n g c M e =
    let t = c.args.program.tables.now in
    let P = program_of t in
    let h = g.H.Heap.meaning c.args.heap.now in
    let fs = frames_of c.args.frames.now in
    let m = c.in_ok-method.ensures.spans in
    let w = found_method (method_at P c.in_ok-k.k) (c.method.ensures.numbered c.args.program.whole ∙ m.method) in
    let fit : fit_all P h (arguments c.args.n (top_stack fs)) w.0.method.params ≡ true = rw (record_params t m w.0 w.2, ← c.params_from.ensures) (sym c.if-not-arguments_fit.ensures) in
    rw (call_low P h c.args.name c.args.n M fs c.args.a c.in_ok-c.ensures c.in_ok-k.ensures w.1 fit (omega (arith, e)))

pub enter-requires : goal.enter-requires
enter-requires g c =
    let t = c.args.program.tables.now in
    let P = program_of t in
    let h = g.H.Heap.meaning c.args.heap.now in
    let st = top_stack (frames_of c.args.frames.now) in
    let m = c.in_ok-method.ensures.spans in
    let w = found_method (method_at P c.in_ok-k.k) (c.method.ensures.numbered c.args.program.whole ∙ m.method) in
    let fit : fit_all P h (arguments c.args.n st) w.0.method.params ≡ true = rw (record_params t m w.0 w.2, ← c.params_from.ensures) (sym c.if-not-arguments_fit.ensures) in
    let even = fit_length P h (arguments c.args.n st) w.0.method.params fit in
    let all = arguments_length c.args.n st (omega arith) in
    let extras = ap (λ d. d.extras) w.2 in
    let few = c.args.program.fitting.registers c.in_ok-k.k w.0 w.1 in
    record { ready = c.requires.ready; high = omega arith; few = omega (arith, even, all, extras, few) }

pub returns : goal.returns
returns g c M e =
    let t = c.args.program.tables.now in
    let P = program_of t in
    let h = g.H.Heap.meaning c.args.heap.now in
    let fs = frames_of c.args.frames.now in
    let m = c.in_ok-method.ensures.spans in
    let w = found_method (method_at P c.in_ok-k.k) (c.method.ensures.numbered c.args.program.whole ∙ m.method) in
    let fit : fit_all P h (arguments c.args.n (top_stack fs)) w.0.method.params ≡ true = rw (record_params t m w.0 w.2, ← c.params_from.ensures) (sym c.if-not-arguments_fit.ensures) in
    let enters = call_enters P h c.args.name c.args.n M fs c.args.a c.in_ok-c.ensures c.in_ok-k.ensures w.1 fit (omega (arith, e)) in
    let extras = ap (λ x. above h (fresh c.in_ok-k.k c.args.a (arguments c.args.n (top_stack fs)) x) fs) (ap (λ d. d.extras) w.2) in
    rw (enters ∙ extras) (c.enter.ensures h)
