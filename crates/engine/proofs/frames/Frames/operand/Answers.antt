use Rattle.std.proofs.Common.{◌-◌, get_or, arith}
use Rattle.engine.proofs.Reading.{seen_nth}
use Rattle.engine.proofs.Tops.{lowest_old}
use Rattle.engine.proofs.frames.Frames.operand.Goals as goal

pub returns : goal.returns
returns c =
    let s = c.args.self.now in
    let d = c.index-self-self.result in
    let f = get_or s.frames (s.count - 1) d in
    rw (lowest_old s.frames s.count d (omega arith) (omega arith)) (seen_nth f.cells f.height c.args.i c.operand.result (omega (arith, f.low, f.all_cells)) c.operand.ensures)
