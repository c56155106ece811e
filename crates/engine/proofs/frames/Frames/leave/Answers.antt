use Rattle.std.proofs.Common.{◌≡◌, ◌+◌, ◌-◌, arith}
use Rattle.engine.proofs.Tops.{lowest_below}
use Rattle.engine.proofs.Waits.{waits_inside}
use Rattle.engine.proofs.frames.Frames.leave.Goals as goal

pub pass_with-requires : goal.pass_with-requires
pass_with-requires c =
    let s = c.args.self.now in
    let b = lowest_below s.frames s.count (omega arith) (omega arith) in
    let one : s.count - 2 + 1 ≡ s.count - 1 = omega arith in
    record {
      ready = record { some = omega arith; inside = rw one at (waits_inside s.frames (s.count - 2) (s.count - 1) (omega arith) (omega arith) s.waiting) };
      high = rw b at c.requires.high;
      low = rw b at c.requires.low;
    }

pub returns : goal.returns
returns c =
    let s = c.args.self.now in
    rw (lowest_below s.frames s.count (omega arith) (omega arith)) c.pass_with.ensures
