use Rattle.std.proofs.Common.{arith}
use Rattle.std.proofs.lemmas.Bool.{le-leb, lt-leb, lt-ltb, le-ltb}
use Rattle.jinja.specs.Step.{catches}
use Rattle.engine.proofs.catching.catches.Goals as goal

pub returns-then-pc-handler : goal.returns-then-pc-handler
unfolding catches
returns-then-pc-handler c = let x = c.args.handler in rw (lt-leb x.first c.args.pc (omega arith))

pub returns-then-pc-handler-2 : goal.returns-then-pc-handler-2
unfolding catches
returns-then-pc-handler-2 c =
    let x = c.args.handler in
    rw (le-leb x.first c.args.pc (omega arith), le-ltb c.args.pc x.end (omega arith))

pub returns : goal.returns
unfolding catches
returns c =
    let x = c.args.handler in
    rw (le-leb x.first c.args.pc (omega arith), lt-ltb c.args.pc x.end (omega arith)) c.at_or_below.ensures
