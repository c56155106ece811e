use Rattle.std.proofs.Common.{sym}
use Rattle.tables.specs.Views.{program_of}
use Rattle.engine.specs.Views.{frames_of}
use Rattle.engine.specs.Stepping.{top_stack}
use Rattle.engine.proofs.Calls.{invoke_on, invoke_none}
use Rattle.engine.proofs.calling.invoke.Goals as goal
use Rattle.std.proofs.lemmas.Option.{slice_get_within}

pub returns-in_err-receiver : goal.returns-in_err-receiver
returns-in_err-receiver g c M e =
    rw (invoke_none (program_of c.args.program.tables.now) (g.H.Heap.meaning c.args.heap.now) c.args.name c.args.n M (frames_of c.args.frames.now) c.in_err-receiver.ensures, c.from_residual.ensures)

pub call-requires : goal.call-requires
call-requires g c =
    let high = slice_get_within (top_stack (frames_of c.args.frames.now)) c.args.n _ (sym c.in_ok-receiver.ensures) in
    record { ready = c.requires.ready; high = high }

pub returns-in-Null : goal.returns-in-Null
returns-in-Null g c M e =
    rw (invoke_on (program_of c.args.program.tables.now) (g.H.Heap.meaning c.args.heap.now) c.args.name c.args.n M (frames_of c.args.frames.now) c.in_ok-receiver.ensures, c.in-Null.is) c.raise.ensures

pub returns-in-Addr : goal.returns-in-Addr
returns-in-Addr g c M e =
    rw (invoke_on (program_of c.args.program.tables.now) (g.H.Heap.meaning c.args.heap.now) c.args.name c.args.n M (frames_of c.args.frames.now) c.in_ok-receiver.ensures, c.in-Addr.is) (c.call.ensures M e)

pub returns-in-Unit : goal.returns-in-Unit
returns-in-Unit g c M e =
    rw (invoke_on (program_of c.args.program.tables.now) (g.H.Heap.meaning c.args.heap.now) c.args.name c.args.n M (frames_of c.args.frames.now) c.in_ok-receiver.ensures, c.in-Unit.is)

pub returns-in-Bool : goal.returns-in-Bool
returns-in-Bool g c M e =
    rw (invoke_on (program_of c.args.program.tables.now) (g.H.Heap.meaning c.args.heap.now) c.args.name c.args.n M (frames_of c.args.frames.now) c.in_ok-receiver.ensures, c.in-Bool.is)

pub returns-in-Int : goal.returns-in-Int
returns-in-Int g c M e =
    rw (invoke_on (program_of c.args.program.tables.now) (g.H.Heap.meaning c.args.heap.now) c.args.name c.args.n M (frames_of c.args.frames.now) c.in_ok-receiver.ensures, c.in-Int.is)
