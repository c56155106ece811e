use Rattle.std.proofs.Common.{◌≡◌, Err, sym, refl, ap, ◌∙◌, arith}
use Rattle.jinja.specs.declared.answer.Refusal.TheVariants.{NoSpace}
use Rattle.set.specs.Sets.{set_program}
use Rattle.machine.specs.States.{program, state}
use Rattle.machine.proofs.Begins.{found, fit_length, begin_busy, begin_unfit, begin_full, begin_done}
use Rattle.machine.proofs.machine.Machine.begin.Goals as goal

pub returns-in_default : goal.returns-in_default
returns-in_default g c =
    record { state = begin_busy (program c.args.self.now) c.args.class c.args.name c.args.args.now (state g.H.Heap.meaning c.args.self.now) c.in_default.not-Idle; program = refl }

pub returns-then-not-arguments_fit : goal.returns-then-not-arguments_fit
returns-then-not-arguments_fit g c =
    let S = c.set-set.result.now in
    let s = state g.H.Heap.meaning c.args.self.now in
    let d = found S _ c.args.class c.args.name c.in_ok-k.k c.tables.ensures (sym c.in_ok-k.ensures.ok_part ∙ c.sees.ensures) in
    let f = sym (c.arguments_fit.ensures.fit d.1.0 s.heap.lines d.1.1) ∙ c.if-not-arguments_fit.true in
    record { state = begin_unfit (set_program S) _ (ap set_program c.set-set.ensures) c.args.class c.args.name c.in_ok-k.k c.args.args.now s c.in-Idle.is d.0 d.1.1 f; program = refl }

pub returns-in_err-first_objects : goal.returns-in_err-first_objects
returns-in_err-first_objects g c =
    let S = c.set-set.result.now in
    let s = state g.H.Heap.meaning c.args.self.now in
    let d = found S _ c.args.class c.args.name c.in_ok-k.k c.tables.ensures (sym c.in_ok-k.ensures.ok_part ∙ c.sees.ensures) in
    let f = sym (c.arguments_fit.ensures.fit d.1.0 s.heap.lines d.1.1) ∙ c.if-not-arguments_fit.false in
    let h = c.in_err-first_objects.ensures in
    let full : c.from_residual-in_err-first_objects.result ≡ Err NoSpace = grind arith in
    record { state = rw full (begin_full (set_program S) _ (ap set_program c.set-set.ensures) c.args.class c.args.name c.in_ok-k.k c.args.args.now s c.in-Idle.is d.0 d.1.1 f h.1 h.2); program = refl }

pub returns : goal.returns
returns g c =
    let S = c.set-set.result.now in
    let s = state g.H.Heap.meaning c.args.self.now in
    let d = found S _ c.args.class c.args.name c.in_ok-k.k c.tables.ensures (sym c.in_ok-k.ensures.ok_part ∙ c.sees.ensures) in
    let f = sym (c.arguments_fit.ensures.fit d.1.0 s.heap.lines d.1.1) ∙ c.if-not-arguments_fit.false in
    let o = c.open.ensures.opened d.1.0 d.1.1 (fit_length S s.heap c.args.args.now d.1.0.method.params f) in
    record { state = begin_done (set_program S) _ (ap set_program c.set-set.ensures) c.args.class c.args.name c.in_ok-k.k c.args.args.now s c.in-Idle.is d.0 d.1.1 f c.in_ok-first_objects.ensures o; program = refl }
