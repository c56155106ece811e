use Rattle.std.proofs.Common.{sym, arith}
use Rattle.heap.specs.declared.value.Value.TheVariants.{Unit as unit}
use Rattle.engine.proofs.Reading.{register_read, register_past}
use Rattle.engine.proofs.frame.Frame.register.Goals as goal

pub returns-then-j-self : goal.returns-then-j-self
returns-then-j-self c = let f = c.args.self.now in sym (register_past f.registers f.register_count c.args.j (omega arith) (omega arith))

pub returns : goal.returns
returns c = let f = c.args.self.now in sym (register_read f.registers f.register_count c.args.j unit (omega arith) (omega arith))
