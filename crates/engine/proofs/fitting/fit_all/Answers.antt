use Rattle.std.proofs.Common.{length, sym, ap, ◌∙◌, arith}
use Rattle.std.proofs.lemmas.Iterator.{empty_from_Zip}
use Rattle.tables.specs.Views.{program_of}
use Rattle.engine.proofs.Fits.{fit_uneven, fit_next}
use Rattle.engine.proofs.fitting.fit_all.Goals as goal

pub returns-then-values-types : goal.returns-then-values-types
returns-then-values-types g c = fit_uneven (program_of c.args.tables.now) (g.H.Heap.meaning c.args.heap.now) c.args.values.now c.args.types.now c.if-values-types.true

pub returns-then-not-fits : goal.returns-then-not-fits
returns-then-not-fits g c =
    let s = c.in-Some.ensures.steps in
    sym (c.loop-v.invariant.all ∙ fit_next (program_of c.args.tables.now) (g.H.Heap.meaning c.args.heap.now) s.0 s.1 c.if-not-fits.ensures)

pub loop-v-preserved : goal.loop-v-preserved
loop-v-preserved g c =
    let s = c.in-Some.ensures.steps in
    let v = ap length s.0 in
    let t = ap length s.1 in
    record { all = c.loop-v.invariant.all ∙ fit_next (program_of c.args.tables.now) (g.H.Heap.meaning c.args.heap.now) s.0 s.1 c.if-not-fits.ensures; even = omega (arith, c.loop-v.invariant.even) }

pub returns : goal.returns
returns g c =
    let e = empty_from_Zip c.loop-v.v-iterator c.next.new.self c.next.result c.in-None.is c.next.ensures.steps c.loop-v.invariant.even in
    sym (rw (e.0, e.1) at c.loop-v.invariant.all)
