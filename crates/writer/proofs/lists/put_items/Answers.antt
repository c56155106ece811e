-- The count, and then an item each turn.
use Rattle.std.proofs.Common.{sym}
use Rattle.number.proofs.Putting.{full_front, put_full, loop_more_at, loop_full_at}
use Rattle.writer.proofs.Counted.{counted_all}
use Rattle.writer.proofs.Exits.{refused}
use Rattle.writer.proofs.lists.put_items.Goals as goal

pub returns-in_err-put_number : goal.returns-in_err-put_number
returns-in_err-put_number g c =
    refused c.from_residual.result c.from_residual.ensures.0 _ _ _ (full_front _ _ _ _ c.in_err-put_number.ensures)

pub returns-in_err-put : goal.returns-in_err-put
returns-in_err-put g c =
    refused c.from_residual-in_err-put.result c.from_residual-in_err-put.ensures.0 _ _ _
    (put_full _ _ _ _ _ c.in_ok-put_number.ensures
    (loop_full_at (g.T.Item.stands c.args.tables.now) c.args.items.now c.loop-x.x-index c.x-item.result c.x-item.result (sym c.x-item.is) _ _ _
    c.loop-x-test.true c.loop-x.invariant c.in_err-put.ensures))

pub loop-x-preserved : goal.loop-x-preserved
loop-x-preserved g c =
    loop_more_at (g.T.Item.stands c.args.tables.now) c.args.items.now c.loop-x.x-index c.x-item.result c.x-item.result (sym c.x-item.is) _ _ _
    c.loop-x-test.true c.loop-x.invariant c.in_ok-put.ensures

pub returns : goal.returns
returns g c =
    counted_all (g.T.Item.stands c.args.tables.now) c.args.items.now c.loop-x.x-index _ _ _
    c.loop-x-test.false c.in_ok-put_number.ensures c.loop-x.invariant
