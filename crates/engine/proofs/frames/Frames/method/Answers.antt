use Rattle.std.proofs.Common.{arith}
use Rattle.engine.proofs.Tops.{lowest_old}
use Rattle.engine.proofs.frames.Frames.method.Goals as goal

pub returns : goal.returns
returns c = let s = c.args.self.now in rw (lowest_old s.frames s.count c.index-self-self.result c.requires (omega arith))
