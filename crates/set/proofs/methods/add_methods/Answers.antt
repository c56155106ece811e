-- Each turn adds a method to those of the class.
use Rattle.std.proofs.Common.{◌≡◌, ◌-◌, sym, refl, ap, ◌∙◌, arith}
use Rattle.std.proofs.lemmas.Result.{err_from_is_err_and}
use Rattle.number.specs.Places.{file_of, place_of}
use Rattle.format.specs.Reading.{counted}
use Rattle.format.specs.Parse.{method_at}
use Rattle.format.proofs.Counting.{counted_step_ok, counted_step_err, counted_all}
use Rattle.tables.specs.Views.{program_of}
use Rattle.set.specs.Progress.{mine, method_step}
use Rattle.set.proofs.Added.{no_more, more_by, more_as}
use Rattle.set.proofs.Ways.{moved}
use Rattle.set.proofs.methods.add_methods.Goals as goal

pub loop-init : goal.loop-init
loop-init c =
    let e : c.args.count - 0 ≡ c.args.count = omega arith in (
      ap (λ k. counted (method_at (file_of c.args.c.now) c.args.n (program_of c.args.t.now) c.args.s) k (mine c.args.first c.args.t.now) (place_of c.args.c.now)) e,
      refl,
      c.requires.tallied,
      no_more c.args.t.now,
    )

pub returns-in_err-read_method : goal.returns-in_err-read_method
returns-in_err-read_method c =
    let p = err_from_is_err_and c.from_residual.result c.from_residual.ensures.1 in
    let file = file_of c.args.c.now in
    let P = program_of c.args.t.now in
    let a = moved (λ x. method_step x c.args.n P c.args.s (mine c.args.first c.loop.t) (place_of c.loop.c)) c.loop.invariant.1
    (sym (ap (λ Q. method_step (file_of c.loop.c) c.args.n Q c.args.s (mine c.args.first c.loop.t) (place_of c.loop.c)) c.loop.invariant.3.program) ∙ c.in_err-read_method.ensures.went.gave) in
    let e = counted_step_err (method_at file c.args.n P c.args.s) c.args.count c.loop.counter (mine c.args.first c.loop.t) (place_of c.loop.c) c.in_err-read_method.field-0.0 (omega arith) a in
    rw (p.1, p.2) (record { tallied = tt; more = tt; went = record { file = c.in_err-read_method.ensures.went.file ∙ c.loop.invariant.1; gave = sym c.loop.invariant.0 ∙ e } })

pub loop-preserved : goal.loop-preserved
loop-preserved c =
    let file = file_of c.args.c.now in
    let P = program_of c.args.t.now in
    let a = moved (λ x. method_step x c.args.n P c.args.s (mine c.args.first c.loop.t) (place_of c.loop.c)) c.loop.invariant.1
    (sym (ap (λ Q. method_step (file_of c.loop.c) c.args.n Q c.args.s (mine c.args.first c.loop.t) (place_of c.loop.c)) c.loop.invariant.3.program) ∙ c.in_ok-read_method.ensures.went.gave) in
    let e = counted_step_ok (method_at file c.args.n P c.args.s) c.args.count c.loop.counter (mine c.args.first c.loop.t) (mine c.args.first c.read_method.new.t) (place_of c.loop.c) (place_of c.read_method.new.c) (omega arith) a in (
      sym e ∙ c.loop.invariant.0,
      c.in_ok-read_method.ensures.went.file ∙ c.loop.invariant.1,
      c.in_ok-read_method.ensures.tallied,
      more_by c.loop.counter 1 c.args.t.now c.loop.t c.read_method.new.t c.loop.invariant.3 c.in_ok-read_method.ensures.more,
    )

pub returns : goal.returns
returns c =
    let e = counted_all (method_at (file_of c.args.c.now) c.args.n (program_of c.args.t.now) c.args.s) c.args.count c.loop.counter (mine c.args.first c.loop.t) (place_of c.loop.c) (omega arith) in
    record { tallied = c.loop.invariant.2; more = more_as c.loop.counter c.args.count c.args.t.now c.loop.t (omega arith) c.loop.invariant.3; went = record { file = c.loop.invariant.1; gave = sym c.loop.invariant.0 ∙ e } }
