use Rattle.std.proofs.Common.{◌≡◌, true, arith}
use Rattle.jinja.specs.Classes.{is_class}
use Rattle.tables.specs.Views.{program_of}
use Rattle.engine.specs.Views.{frames_of}
use Rattle.engine.proofs.Tops.{lowest_length}
use Rattle.engine.proofs.NewObjects.{new_goes, new_fails}
use Rattle.engine.proofs.creating.create.Goals as goal

pub returns-in-Some : goal.returns-in-Some
returns-in-Some g c M e =
    let P = program_of c.args.program.tables.now in
    let fs = frames_of c.args.frames.now in
    let n = lowest_length c.args.frames.now.frames c.args.frames.now.count (omega arith) in
    let class : is_class P c.args.c ≡ true = cc in
    rw c.pass_with.ensures
    (new_goes P (g.H.Heap.meaning c.args.heap.now) c.args.c M class fs (omega (arith, n)) (omega (arith, e)) c.in-Some.ensures)

pub returns-in-None : goal.returns-in-None
returns-in-None g c M e =
    let P = program_of c.args.program.tables.now in
    let fs = frames_of c.args.frames.now in
    let n = lowest_length c.args.frames.now.frames c.args.frames.now.count (omega arith) in
    let class : is_class P c.args.c ≡ true = cc in
    new_fails P (g.H.Heap.meaning c.args.heap.now) c.args.c M class fs (omega (arith, n)) (omega (arith, e)) c.in-None.ensures c.raise.ensures
