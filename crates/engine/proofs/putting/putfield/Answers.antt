use Rattle.std.proofs.Common.{sym, arith}
use Rattle.engine.specs.Views.{frames_of}
use Rattle.engine.specs.Stepping.{top_stack}
use Rattle.engine.proofs.putting.putfield.Goals as goal
use Rattle.std.proofs.lemmas.Option.{slice_get_within}

pub put-requires : goal.put-requires
put-requires g c =
    let two = slice_get_within (top_stack (frames_of c.args.frames.now)) 1 _ (sym c.in_ok-reference.ensures) in
    record { ready = c.requires.ready; high = omega (arith, two) }
