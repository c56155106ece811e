use Rattle.std.proofs.Common.{◌≡◌, true, sym}
use Rattle.jinja.specs.Values.{fits}
use Rattle.tables.specs.Views.{program_of}
use Rattle.engine.specs.Views.{frames_of}
use Rattle.engine.proofs.Returns.{return_of}
use Rattle.engine.proofs.returning.return_value.Goals as goal

pub returns : goal.returns
returns g c M e p =
    let P = program_of c.args.program.tables.now in
    let h = g.H.Heap.meaning c.args.heap.now in
    let fit : fits P h c.in_ok-v.v M.method.result ≡ true = rw e (sym c.if-not-fits.ensures) in
    rw (return_of P h M (frames_of c.args.frames.now) c.in_ok-v.ensures fit p) (c.hand_back.ensures h)
