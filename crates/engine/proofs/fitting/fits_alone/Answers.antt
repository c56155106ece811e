use Rattle.std.proofs.Common.{rules}
use Rattle.heap.specs.Calls.{vacant}
use Rattle.tables.specs.Views.{program_of}
use Rattle.engine.proofs.Fits.{unit_fits, null_fits, boolean_fits, integer_fits, nothing_there}
use Rattle.engine.proofs.fitting.fits_alone.Goals as goal

pub returns-in-Unit : goal.returns-in-Unit
returns-in-Unit c ls = unit_fits (program_of c.args.tables.now) (vacant ls) c.args.t c.eq.result c.in-Unit.is (search rules)

pub returns-in-Null : goal.returns-in-Null
returns-in-Null c ls = null_fits (program_of c.args.tables.now) (vacant ls) c.args.t c.null_at_or_below.result c.in-Null.is c.null_at_or_below.ensures

pub returns-in-Bool : goal.returns-in-Bool
returns-in-Bool c ls = boolean_fits (program_of c.args.tables.now) (vacant ls) c.args.t c.eq-in-Bool.result c.in-Bool.is (search rules)

pub returns-in-Int : goal.returns-in-Int
returns-in-Int c ls = integer_fits (program_of c.args.tables.now) (vacant ls) c.args.t c.eq-in-Int.result c.in-Int.is (search rules)

pub returns-in-Addr : goal.returns-in-Addr
returns-in-Addr c ls = nothing_there (program_of c.args.tables.now) ls c.args.t c.in-Addr.is
