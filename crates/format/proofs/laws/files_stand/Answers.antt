use Rattle.format.proofs.RoundTrip.{written_is_read, read_was_written, files_are_encodings, one_program}
use Rattle.format.proofs.WellFormed.{kept_is_well_formed}
use Rattle.format.proofs.Bytes.{written_in_bytes}
use Rattle.format.proofs.laws.files_stand.Goals as goal

pub returns : goal.returns
returns c = record { written = written_is_read; read = read_was_written; bytes = written_in_bytes; exactly = files_are_encodings; one = one_program; formed = kept_is_well_formed }
