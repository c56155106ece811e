-- What is held afterwards is what was held, without its topmost cells.
use Rattle.std.proofs.Common.{◌≤◌, sym, refl, arith}
use Rattle.stack.proofs.Held.{held_drop}
use Rattle.stack.proofs.Stack.discard.Goals as goal

pub returns-clause-discarded : goal.returns-clause-discarded
returns-clause-discarded g c =
    let s = c.args.self.now in
    let l : c.args.n ≤ s.height = omega arith in
    (omega arith, refl, sym (held_drop s.cells.now s.height c.args.n l s.within))
