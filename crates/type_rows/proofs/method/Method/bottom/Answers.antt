-- The row of an unreached instruction shows it.
use Rattle.type_rows.specs.Stepping.{program, owned}
use Rattle.type_rows.proofs.Unreached.{unreached_shown, unreached_read}
use Rattle.type_rows.proofs.method.Method.bottom.Goals as goal

pub returns : goal.returns
returns c =
    let m = c.args.self.now in
    record { shows = unreached_shown (program m) (owned m) c.write_unreached.ensures; means = unreached_read (owned m) c.write_unreached.ensures }
