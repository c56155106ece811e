use Rattle.std.proofs.Common.{[], ◌∙◌}
use Rattle.heap.specs.Calls.{vacant}
use Rattle.tables.specs.Views.{program_of}
use Rattle.engine.proofs.Fits.{address_fits, nothing_fits, fits_anywhere}
use Rattle.engine.proofs.fitting.fits.Goals as goal

pub returns-in-Some : goal.returns-in-Some
returns-in-Some g c = address_fits (program_of c.args.tables.now) (g.H.Heap.meaning c.args.heap.now) c.args.t c.class_at_or_below.result c.in-Addr.is c.in-Some.ensures c.class_at_or_below.ensures

pub returns-in-None : goal.returns-in-None
returns-in-None g c = nothing_fits (program_of c.args.tables.now) (g.H.Heap.meaning c.args.heap.now) c.args.t c.in-Addr.is c.in-None.ensures

pub returns-in_default : goal.returns-in_default
returns-in_default g c =
    c.fits_alone.ensures [] ∙ fits_anywhere (program_of c.args.tables.now) (vacant []) (g.H.Heap.meaning c.args.heap.now) c.args.v c.args.t c.in_default.not-Addr
