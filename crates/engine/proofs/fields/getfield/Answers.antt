use Rattle.std.proofs.Common.{sym, arith}
use Rattle.engine.specs.Views.{frames_of}
use Rattle.engine.specs.Stepping.{top_stack}
use Rattle.engine.proofs.fields.getfield.Goals as goal
use Rattle.std.proofs.lemmas.Option.{slice_get_within}

pub pass_with-requires : goal.pass_with-requires
pass_with-requires g c =
    let some = slice_get_within (top_stack (frames_of c.args.frames.now)) 0 _ (sym c.in_ok-v.ensures) in
    let low = c.height.ensures.low in
    record { ready = c.requires.ready; high = omega (arith, some); low = omega (arith, some, low) }
