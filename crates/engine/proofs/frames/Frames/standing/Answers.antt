use Rattle.std.proofs.Common.{sym, arith}
use Rattle.engine.proofs.Tops.{lowest_length}
use Rattle.engine.proofs.frames.Frames.standing.Goals as goal

pub returns : goal.returns
returns c = let s = c.args.self.now in sym (lowest_length s.frames s.count (omega arith))
