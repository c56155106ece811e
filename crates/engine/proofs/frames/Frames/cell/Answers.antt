use Rattle.std.proofs.Common.{arith}
use Rattle.engine.proofs.Bottoms.{frame_found, frame_past}
use Rattle.engine.proofs.frames.Frames.cell.Goals as goal

pub returns-then-i-self : goal.returns-then-i-self
returns-then-i-self c = let s = c.args.self.now in rw (frame_past s.frames s.count c.args.i (omega arith) (omega arith))

pub returns : goal.returns
returns c = let s = c.args.self.now in rw (frame_found s.frames s.count c.args.i c.index-self-i.result (omega arith) (omega arith)) c.cell.ensures
