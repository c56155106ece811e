-- The cell that is read is the topmost of what is left without those above it.
use Rattle.std.proofs.Common.{◌<◌, arith}
use Rattle.stack.proofs.Held.{held_below}
use Rattle.stack.proofs.Stack.below.Goals as goal

pub returns : goal.returns
returns g c =
    let s = c.args.self.now in
    let l : c.args.i < s.height = omega arith in
    (l, held_below s.cells.now s.height c.args.i c.index-cells-h.result l s.within c.index-cells-h.is)
