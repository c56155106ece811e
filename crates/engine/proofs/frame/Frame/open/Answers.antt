use Rattle.std.proofs.Common.{arith}
use Rattle.engine.proofs.Arguments.{fresh_registers}
use Rattle.engine.proofs.frame.Frame.open.Goals as goal

pub returns : goal.returns
returns c =
    rw (fresh_registers c.args.self.now.registers c.args.args.now c.copy_from_slice.new.self c.fill.new.self c.args.this c.args.extras _ _ (omega arith) c.copy_from_slice.ensures.after (omega arith) (omega arith) (c.fill.ensures.after (λ y e. e)))
