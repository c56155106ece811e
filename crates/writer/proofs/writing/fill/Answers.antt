-- With room for the file, all of it is put.
use Rattle.std.proofs.Common.{Ok, refl}
use Rattle.number.proofs.Putting.{run_both}
use Rattle.tables.specs.Views.{program_of}
use Rattle.writer.specs.declared.fault.WriteFault.{WriteFault}
use Rattle.writer.proofs.ReadBack.{read_back}
use Rattle.writer.proofs.writing.fill.Goals as goal

pub returns : goal.returns
returns c =
    let w = run_both {E = WriteFault} (Ok c.in_ok-run.field-0) _ _ _ _ _ (refl, c.requires.room, refl) c.in_ok-run.ensures in
    record { written = w; read = read_back (program_of c.args.tables.now) c.requires.kept _ _ _ w.0 w.1 }
