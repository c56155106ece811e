-- What an instruction sends does not depend on where it stands, but for the two that jump.
use Rattle.type_rows.proofs.method.Method.step.Goals as goal

pub returns-in-Load : goal.returns-in-Load
returns-in-Load c = rw c.in-Load.is (c.step_load.ensures c.args.site.pc)

pub returns-in-Store : goal.returns-in-Store
returns-in-Store c = rw c.in-Store.is (c.step_store.ensures c.args.site.pc)

pub returns-in-Push : goal.returns-in-Push
returns-in-Push c = rw c.in-Push.is (c.step_push.ensures c.args.site.pc)

pub returns-in-Pop : goal.returns-in-Pop
returns-in-Pop c = rw c.in-Pop.is (c.step_pop.ensures c.args.site.pc)

pub returns-in-New : goal.returns-in-New
returns-in-New c = rw c.in-New.is (c.step_new.ensures c.args.site.pc)

pub returns-in-Getfield : goal.returns-in-Getfield
returns-in-Getfield c = rw c.in-Getfield.is (c.step_getfield.ensures c.args.site.pc)

pub returns-in-Putfield : goal.returns-in-Putfield
returns-in-Putfield c = rw c.in-Putfield.is (c.step_putfield.ensures c.args.site.pc)

pub returns-in-Checkcast : goal.returns-in-Checkcast
returns-in-Checkcast c = rw c.in-Checkcast.is (c.step_checkcast.ensures c.args.site.pc)

pub returns-in-Invoke : goal.returns-in-Invoke
returns-in-Invoke c = rw c.in-Invoke.is (c.step_invoke.ensures c.args.site.pc)

pub returns-in-Return : goal.returns-in-Return
returns-in-Return c = rw c.in-Return.is (c.step_return.ensures c.args.site.pc)

pub returns-in-IAdd : goal.returns-in-IAdd
returns-in-IAdd c = rw c.in-IAdd.is (c.step_add.ensures c.args.site.pc)

pub returns-in-CmpEq : goal.returns-in-CmpEq
returns-in-CmpEq c = rw c.in-CmpEq.is (c.step_equal.ensures c.args.site.pc)

pub returns-in-Throw : goal.returns-in-Throw
returns-in-Throw c = rw c.in-Throw.is (c.step_throw.ensures c.args.site.pc)
