-- The number of Push, and then the literal.
use Rattle.number.proofs.Putting.{full_front, puts_more}
use Rattle.writer.proofs.Exits.{refused}
use Rattle.writer.proofs.items.put_push.Goals as goal

pub returns-in_err-put_number : goal.returns-in_err-put_number
returns-in_err-put_number c =
    refused c.from_residual.result c.from_residual.ensures.0 _ _ _ (full_front _ _ _ _ c.in_err-put_number.ensures)

pub returns : goal.returns
returns c = puts_more c.put_literal.result _ _ _ _ _ c.in_ok-put_number.ensures c.put_literal.ensures
