use Rattle.std.proofs.Common.{◌-◌, get_or, sym, arith}
use Rattle.engine.proofs.Reading.{held_length}
use Rattle.engine.proofs.Tops.{lowest_old}
use Rattle.engine.proofs.frames.Frames.height.Goals as goal

pub returns : goal.returns
returns c =
    let s = c.args.self.now in
    let d = c.index-self-self.result in
    let f = get_or s.frames (s.count - 1) d in
    record { height = rw (lowest_old s.frames s.count d (omega arith) (omega arith)) (sym (held_length f.cells f.height (omega (arith, f.low, f.all_cells)))); low = f.low }
