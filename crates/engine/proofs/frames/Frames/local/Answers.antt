use Rattle.std.proofs.Common.{◌≡◌, ◌+◌, ◌-◌, arith}
use Rattle.engine.proofs.Waits.{waits_same}
use Rattle.engine.proofs.frames.Frames.local.Goals as goal

pub invariant_of-self : goal.invariant_of-self
invariant_of-self g c =
    let s = c.args.self.now in
    record { all = omega arith; shallow = omega arith; waiting = waits_same s.frames c.local_at.new.frames (s.count - 1) (s.count - 1) c.local_at.ensures.below (omega arith) s.waiting }

pub returns : goal.returns
returns g c P M e s l h =
    let n = c.args.self.now.count in
    let one : n - 1 + 1 ≡ n = omega arith in
    rw one at (c.local_at.ensures.after P M e s l h)
