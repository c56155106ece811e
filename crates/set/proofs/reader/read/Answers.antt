-- What a file that is read says is its program, which keeps the rules; a refusal leaves none.
use Rattle.tables.specs.Views.{program_of}
use Rattle.set.proofs.Refused.{all_bytes, filled_keeps, read_encoding, encoding_read}
use Rattle.set.proofs.reader.read.Goals as goal

pub invariant_of-set : goal.invariant_of-set
invariant_of-set c =
    record { kept = filled_keeps c.args.file.now (all_bytes c.args.file.now c.type_inv.file) (program_of c.fill.new.t) c.fill.ensures.filled; whole = c.fill.ensures.whole }

pub returns : goal.returns
returns c =
    record {
      gave = c.fill.ensures.gave;
      filled = c.fill.ensures.filled;
      encoding = read_encoding c.args.file.now (all_bytes c.args.file.now c.type_inv.file) c.fill.result (program_of c.fill.new.t) c.fill.ensures.gave;
      reads = λ P k e. encoding_read c.args.file.now c.fill.result (program_of c.fill.new.t) P c.fill.ensures.gave k e;
    }
