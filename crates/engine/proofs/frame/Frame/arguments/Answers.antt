use Rattle.std.proofs.Common.{◌-◌, sym, ◌∙◌, arith}
use Rattle.std.proofs.lemmas.Slice.{between_is}
use Rattle.engine.proofs.Arguments.{arguments_held}
use Rattle.engine.proofs.frame.Frame.arguments.Goals as goal

pub returns : goal.returns
returns c =
    let f = c.args.self.now in
    let n = c.args.n in
    between_is f.cells (f.height - n) f.height ∙ sym (arguments_held f.cells f.height n (omega arith) (omega arith))
