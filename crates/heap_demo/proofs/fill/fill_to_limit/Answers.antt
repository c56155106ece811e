use Rattle.std.proofs.Common.{sym, ap, ◌∙◌}
use Rattle.heap_demo.specs.Filled.{holding}
use Rattle.heap_demo.proofs.Fills.{taken, refused}
use Rattle.heap_demo.proofs.fill.fill_to_limit.Goals as goal

pub loop-taken-preserved : goal.loop-taken-preserved
loop-taken-preserved g c =
    let m = g.H.Heap.meaning c.loop-taken.heap in
    let n = g.H.Heap.meaning c.add.new.self in
    let ls = (g.H.Heap.meaning c.clear.new.heap).lines in
    taken m n c.args.class c.args.row.now c.add.result c.add.ensures.answer c.add.ensures.after c.loop-taken.invariant.1 ls c.loop-taken.taken
    (sym c.is_ok.ensures.value ∙ c.loop-taken-test.true)
    c.loop-taken.invariant.0

pub returns : goal.returns
returns g c =
    let m = g.H.Heap.meaning c.loop-taken.heap in
    let n = g.H.Heap.meaning c.add.new.self in
    let ls = (g.H.Heap.meaning c.args.heap.now).lines in
    let l = ap (λ x. holding x.lines c.loop-taken.taken c.args.class c.args.row.now) c.clear.ensures.after in
    let r = refused m n c.args.class c.args.row.now c.add.result c.add.ensures.answer c.add.ensures.after c.loop-taken.invariant.1 ls c.loop-taken.taken
    (sym c.is_ok.ensures.value ∙ c.loop-taken-test.false)
    (c.loop-taken.invariant.0 ∙ l) in
    record { after = r.0; full = r.1; within = r.2 }
