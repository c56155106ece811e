use Rattle.std.proofs.Common.{◌≡◌, true, false, sym}
use Rattle.heap.specs.Calls.{has_field}
use Rattle.jinja.specs.Classes.{at_or_below}
use Rattle.tables.specs.Views.{program_of}
use Rattle.engine.specs.Views.{frames_of}
use Rattle.engine.proofs.HeapAnswers.{put_lost, put_found}
use Rattle.engine.proofs.putting.put.Goals as goal

pub returns-in_err-d : goal.returns-in_err-d
returns-in_err-d g c = rw (put_lost (program_of c.args.tables.now) (g.H.Heap.meaning c.args.heap.now) c.args.field c.args.c c.args.a c.args.v (frames_of c.args.frames.now) c.in_err-d.ensures, c.from_residual.ensures)

pub returns-then-not-at_or_below : goal.returns-then-not-at_or_below
returns-then-not-at_or_below g c =
    let P = program_of c.args.tables.now in
    let found = put_found P (g.H.Heap.meaning c.args.heap.now) c.args.field c.args.c c.args.a c.args.v (frames_of c.args.frames.now) c.requires.high c.in_ok-d.ensures in
    let below : at_or_below P c.in_ok-d.d c.args.c ≡ false = cc in
    rw (found, below)

pub returns-in_err-write : goal.returns-in_err-write
returns-in_err-write g c =
    let P = program_of c.args.tables.now in
    let h = g.H.Heap.meaning c.args.heap.now in
    let found = put_found P h c.args.field c.args.c c.args.a c.args.v (frames_of c.args.frames.now) c.requires.high c.in_ok-d.ensures in
    let below : at_or_below P c.in_ok-d.d c.args.c ≡ true = cc in
    let room : has_field h c.args.a c.args.field.place ≡ false = sym c.in_err-write.ensures.told in
    rw (found, below, room, c.write.ensures.after, room, c.from_residual-in_err-write.ensures)

pub returns : goal.returns
returns g c =
    let P = program_of c.args.tables.now in
    let h = g.H.Heap.meaning c.args.heap.now in
    let found = put_found P h c.args.field c.args.c c.args.a c.args.v (frames_of c.args.frames.now) c.requires.high c.in_ok-d.ensures in
    let below : at_or_below P c.in_ok-d.d c.args.c ≡ true = cc in
    let room : has_field h c.args.a c.args.field.place ≡ true = sym c.in_ok-write.ensures.told in
    rw (found, below, room, c.write.ensures.after, room, c.pass.ensures)
