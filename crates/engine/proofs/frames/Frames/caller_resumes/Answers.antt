use Rattle.std.proofs.Common.{◌≡◌, ◌-◌, arith}
use Rattle.engine.specs.Views.{lowest_frames}
use Rattle.engine.proofs.Tops.{lowest_below, lowest_old}
use Rattle.engine.proofs.frames.Frames.caller_resumes.Goals as goal

pub returns : goal.returns
returns c =
    let s = c.args.self.now in
    let one : s.count - 1 - 1 ≡ s.count - 2 = omega arith in
    let below = lowest_old s.frames (s.count - 1) c.index-self-self.result (omega arith) (omega arith) in
    rw (lowest_below s.frames s.count (omega arith) (omega arith), below, one) (c.resumes.ensures (lowest_frames s.frames (s.count - 2)))
