use Rattle.std.proofs.Common.{arith}
use Rattle.engine.proofs.Tops.{lowest_length}
use Rattle.engine.proofs.Waits.{waits_more}
use Rattle.engine.proofs.frames.Frames.open_above.Goals as goal

pub invariant_of-self : goal.invariant_of-self
invariant_of-self c =
    let s = c.args.self.now in
    let waits = waits_more s.frames c.open_at.new.frames s.count c.open_at.ensures.below c.requires.ready.some (omega arith) s.waiting c.requires.ready.inside in
    let n = lowest_length s.frames s.count (omega arith) in
    record { all = omega arith; shallow = omega (arith, n); waiting = λ k d z l. waits k d z (omega arith) }

pub open_at-requires : goal.open_at-requires
open_at-requires c =
    let s = c.args.self.now in
    let n = lowest_length s.frames s.count (omega arith) in
    record { some = c.requires.ready.some; within = omega (arith, n); high = c.requires.high; few = c.requires.few }
