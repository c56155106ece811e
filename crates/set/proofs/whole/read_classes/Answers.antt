-- Each turn adds a class to the program.
use Rattle.std.proofs.Common.{sym, ◌∙◌, arith}
use Rattle.std.proofs.lemmas.Result.{err_from_is_err_and}
use Rattle.number.specs.Places.{file_of, place_of}
use Rattle.format.specs.Parse.{class_at, classes_at}
use Rattle.format.proofs.Counting.{counted_step_ok, counted_step_err, counted_all}
use Rattle.tables.specs.Views.{program_of}
use Rattle.set.specs.Progress.{class_step}
use Rattle.set.proofs.Ways.{moved}
use Rattle.set.proofs.whole.read_classes.Goals as goal

pub returns-in_err-read_class : goal.returns-in_err-read_class
unfolding classes_at
returns-in_err-read_class c =
    let p = err_from_is_err_and c.from_residual.result c.from_residual.ensures.1 in
    let a = moved (λ x. class_step x c.args.n (program_of c.loop.t) (place_of c.loop.c)) c.loop.invariant.1 c.in_err-read_class.ensures.went.gave in
    let e = counted_step_err (class_at (file_of c.args.c.now) c.args.n) c.args.count c.loop.counter (program_of c.loop.t) (place_of c.loop.c) c.in_err-read_class.field-0.0 (omega arith) a in
    rw (p.1, p.2) (record { file = c.in_err-read_class.ensures.went.file ∙ c.loop.invariant.1; gave = sym c.loop.invariant.0 ∙ e })

pub loop-preserved : goal.loop-preserved
unfolding classes_at
loop-preserved c =
    let a = moved (λ x. class_step x c.args.n (program_of c.loop.t) (place_of c.loop.c)) c.loop.invariant.1 c.in_ok-read_class.ensures.went.gave.0 in
    let e = counted_step_ok (class_at (file_of c.args.c.now) c.args.n) c.args.count c.loop.counter (program_of c.loop.t) (program_of c.read_class.new.t) (place_of c.loop.c) (place_of c.read_class.new.c) (omega arith) a in
    (sym e ∙ c.loop.invariant.0, c.in_ok-read_class.ensures.went.file ∙ c.loop.invariant.1, c.in_ok-read_class.ensures.went.gave.1, omega (arith, c.in_ok-read_class.ensures.more, c.loop.invariant.3))

pub returns : goal.returns
unfolding classes_at
returns c =
    let e = counted_all (class_at (file_of c.args.c.now) c.args.n) c.args.count c.loop.counter (program_of c.loop.t) (place_of c.loop.c) (omega arith) in
    record { file = c.loop.invariant.1; gave = (sym c.loop.invariant.0 ∙ e, c.loop.invariant.2) }
