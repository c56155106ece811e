use Rattle.std.proofs.Common.{sym, arith}
use Rattle.heap.specs.declared.value.Value.TheVariants.{Unit as unit}
use Rattle.engine.proofs.Bottoms.{bottom_held, bottom_past}
use Rattle.engine.proofs.frame.Frame.cell.Goals as goal

pub returns-then-j-self : goal.returns-then-j-self
returns-then-j-self c = let f = c.args.self.now in sym (bottom_past f.cells f.height c.args.j (omega arith) (omega arith))

pub returns : goal.returns
returns c = let f = c.args.self.now in sym (bottom_held f.cells f.height c.args.j unit (omega arith) (omega arith))
