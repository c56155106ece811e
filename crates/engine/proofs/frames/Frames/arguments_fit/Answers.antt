use Rattle.std.proofs.Common.{◌-◌, get_or, arith}
use Rattle.engine.proofs.Reading.{held_length}
use Rattle.engine.proofs.Tops.{lowest_old}
use Rattle.engine.proofs.frames.Frames.arguments_fit.Goals as goal

pub arguments-operands-requires : goal.arguments-operands-requires
arguments-operands-requires g c =
    let s = c.args.self.now in
    let d = c.index-self-self.result in
    let f = get_or s.frames (s.count - 1) d in
    let n = held_length f.cells f.height (omega (arith, f.low, f.all_cells)) in
    rw n at (rw (lowest_old s.frames s.count d c.requires.some (omega arith)) at c.requires.high)

pub returns : goal.returns
returns g c =
    let s = c.args.self.now in
    rw (lowest_old s.frames s.count c.index-self-self.result c.requires.some (omega arith)) (rw c.arguments-operands.ensures at c.fit_all.ensures)
