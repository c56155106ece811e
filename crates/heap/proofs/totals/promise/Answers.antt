use Rattle.heap.proofs.KeptTotals.{keeps_lines}
use Rattle.heap.proofs.totals.promise.Goals as goal

pub returns : goal.returns
returns g c =
    let h = c.args.heap.now in
    keeps_lines (g.H.Heap.meaning h).lines (g.H.Heap.lawful h).lines
