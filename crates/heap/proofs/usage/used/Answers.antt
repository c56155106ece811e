use Rattle.std.proofs.Common.{◌<◌, length, ap, ◌∙◌, arith}
use Rattle.heap.specs.Meaning.{cost}
use Rattle.heap.proofs.Objects.{row_len_is, row_len_ok, used_more}
use Rattle.heap.proofs.usage.used.Goals as goal
use Rattle.heap.proofs.usage.used.Goals.{in-Ok, in_default}

pub loop-addr-preserved : goal.loop-addr-preserved
loop-addr-preserved g c =
    let m = g.H.Heap.meaning c.args.heap.now in
    let a = c.loop-addr.addr in
    let l : a < length m.objects = omega arith in
    let u = used_more m a l c.args.line in
    elim c.match-row_len.branch [
      | in-Ok w ↦
          let k = ap (cost c.args.line) (row_len_is m a l w.in-Ok.n w.in-Ok.ensures) in
          (omega arith, omega arith)
      | in_default w ↦ absurd (w.in_default.not-Ok _ (c.row_len.ensures ∙ row_len_ok m a l))
    ]
