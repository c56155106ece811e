-- Each law by its proof.
use Rattle.number.proofs.Law.{written, read}
use Rattle.number.proofs.Refusals.{refused}
use Rattle.number.proofs.Signs.{signed_unsigned, unsigned_signed}
use Rattle.number.proofs.Standing.{read_stands, standing_read}
use Rattle.number.proofs.laws.numbers_stand.Goals as goal

pub returns : goal.returns
returns c =
    record {
      written = written;
      read = read;
      stands = read_stands;
      standing = standing_read;
      refused = refused;
      signs = record { back = signed_unsigned; forth = unsigned_signed };
    }
