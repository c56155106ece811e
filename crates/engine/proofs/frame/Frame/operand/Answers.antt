use Rattle.std.proofs.Common.{◌-◌, get_or, arith}
use Rattle.std.proofs.lemmas.List.{get_or_default}
use Rattle.heap.specs.declared.value.Value.TheVariants.{Unit as unit}
use Rattle.stack.proofs.Held.{held_below}
use Rattle.engine.proofs.frame.Frame.operand.Goals as goal

pub returns : goal.returns
returns c =
    let f = c.args.self.now in
    let i = c.args.i in
    let x = get_or f.cells (f.height - 1 - i) unit in
    (omega arith, held_below f.cells f.height i x (omega arith) (omega arith) (get_or_default f.cells (f.height - 1 - i) unit x (omega arith)))
