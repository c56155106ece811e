use Rattle.std.proofs.Common.{arith}
use Rattle.stack.specs.Stacked.{held}
use Rattle.engine.proofs.Reading.{held_length, two_short}
use Rattle.engine.proofs.frame.Frame.two.Goals as goal

pub returns-in_err-lower : goal.returns-in_err-lower
returns-in_err-lower c =
    let f = c.args.self.now in
    let l = held_length f.cells f.height (omega arith) in
    rw c.from_residual.ensures record { seen = two_short (held f.cells f.height) (omega (arith, l)); high = tt }
