use Rattle.std.proofs.Common.{arith}
use Rattle.engine.proofs.NewObjects.{started_more, same_more}
use Rattle.engine.proofs.creating.start_own.Goals as goal

pub loop-i-preserved : goal.loop-i-preserved
loop-i-preserved c = (
  started_more c.args.own.now c.args.start c.loop-i.i c.loop-i.row c.start_value.result _ (omega arith) (omega arith) c.start_value.ensures c.loop-i.invariant.0,
  same_more c.args.start c.loop-i.i c.args.row.now c.loop-i.row c.start_value.result c.loop-i.invariant.1,
)
