-- A number each turn.
use Rattle.std.proofs.Common.{refl, ap, subst, ◌∙◌}
use Rattle.std.specs.List.{flat_map}
use Rattle.std.proofs.lemmas.List.{take_all}
use Rattle.number.specs.Numbers.{bytes}
use Rattle.number.specs.Puts.{Full, Put, pen_of}
use Rattle.number.proofs.Putting.{loop_more_at, loop_full_at}
use Rattle.writer.proofs.Counted.{row_is}
use Rattle.writer.proofs.Exits.{refused}
use Rattle.writer.proofs.numbers.put_numbers.Goals as goal

pub returns-in_err-put_number : goal.returns-in_err-put_number
returns-in_err-put_number c =
    let ns = c.args.numbers.now in
    refused c.from_residual.result c.from_residual.ensures.0 _ _ _
    (subst (Full (pen_of c.args.pen.now) (pen_of c.put_number.new.self)) (row_is ns)
    (loop_full_at bytes ns c.loop-n.n-index 0 _ refl _ _ _ c.loop-n-test.true c.loop-n.invariant c.in_err-put_number.ensures))

pub loop-n-preserved : goal.loop-n-preserved
loop-n-preserved c = loop_more_at bytes c.args.numbers.now c.loop-n.n-index 0 _ refl _ _ _ c.loop-n-test.true c.loop-n.invariant c.in_ok-put_number.ensures

pub returns : goal.returns
returns c =
    let ns = c.args.numbers.now in
    subst (Put (pen_of c.args.pen.now) (pen_of c.loop-n.pen)) (ap (flat_map bytes) (take_all c.loop-n.n-index ns c.loop-n-test.false) ∙ row_is ns) c.loop-n.invariant
