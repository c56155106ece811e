use Rattle.std.proofs.Common.{add-one, arith}
use Rattle.stack.proofs.Held.{held_drop}
use Rattle.engine.proofs.frame.Frame.pass_with.Goals as goal

pub returns : goal.returns
returns c =
    let f = c.args.self.now in
    rw (held_drop f.cells f.height c.args.n (omega arith) (omega arith), ← add-one f.pc) c.go_with.ensures
