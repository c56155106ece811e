use Rattle.std.proofs.Common.{◌≡◌, refl, ◌∙◌, subst}
use Rattle.jinja.specs.Program.{Program}
use Rattle.jinja.specs.declared.answer.Answer.TheVariants.{Stepped}
use Rattle.jinja.specs.State.{step}
use Rattle.machine.specs.States.{program, state}
use Rattle.machine.proofs.Runs.{run_none, run_more, run_stop, run_all}
use Rattle.machine.proofs.machine.Machine.go.Goals as goal

pub loop-count-init : goal.loop-count-init
loop-count-init g c = (run_none (program c.args.self.now) c.args.n (state g.H.Heap.meaning c.args.self.now), refl)

pub loop-count-preserved : goal.loop-count-preserved
loop-count-preserved g c =
    let P = program c.args.self.now in
    let inv = c.loop-count.invariant in
    let s = state g.H.Heap.meaning c.loop-count.self in
    let t = state g.H.Heap.meaning c.go_on-last.new.self in
    let e : (Stepped, t) ≡ step P s = subst (λ (Q : Program). (Stepped, t) ≡ step Q s) inv.1 c.in-Stepped.ensures.state in
    (run_more P c.args.n c.loop-count.count s t _ c.loop-count-test.true inv.0 e, c.go_on-last.ensures.program ∙ inv.1)

pub returns : goal.returns
returns g c =
    record {
      state = run_all (program c.args.self.now) c.args.n c.loop-count.count _ _ c.loop-count-test.false c.loop-count.auto.count-end c.loop-count.invariant.0;
      program = c.loop-count.invariant.1;
    }

pub returns-in_default : goal.returns-in_default
returns-in_default g c =
    let P = program c.args.self.now in
    let inv = c.loop-count.invariant in
    let s = state g.H.Heap.meaning c.loop-count.self in
    let t = state g.H.Heap.meaning c.go_on-last.new.self in
    let e : (c.go_on-last.result, t) ≡ step P s = subst (λ (Q : Program). (c.go_on-last.result, t) ≡ step Q s) inv.1 c.go_on-last.ensures.state in
    record {
      state = run_stop P c.args.n c.loop-count.count s t _ c.go_on-last.result c.loop-count-test.true inv.0 e c.in_default.not-Stepped;
      program = c.go_on-last.ensures.program ∙ inv.1;
    }
