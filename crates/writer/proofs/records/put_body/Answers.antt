-- What a method has behind its types, part by part.
use Rattle.number.proofs.Putting.{full_front, put_full, puts_more}
use Rattle.writer.proofs.Exits.{refused}
use Rattle.writer.proofs.records.put_body.Goals as goal

pub returns-in_err-put_u8 : goal.returns-in_err-put_u8
returns-in_err-put_u8 c =
    refused c.from_residual.result c.from_residual.ensures.0 _ _ _
    (full_front _ _ _ _ c.in_err-put_u8.ensures)

pub returns-in_err-put_u8-2 : goal.returns-in_err-put_u8-2
returns-in_err-put_u8-2 c =
    refused c.from_residual-in_err-put_u8-2.result c.from_residual-in_err-put_u8-2.ensures.0 _ _ _
    (put_full _ _ _ _ _ c.in_ok-put_u8.ensures
    (full_front _ _ _ _ c.in_err-put_u8-2.ensures))

pub returns-in_err-put_span : goal.returns-in_err-put_span
returns-in_err-put_span c =
    refused c.from_residual-in_err-put_span.result c.from_residual-in_err-put_span.ensures.0 _ _ _
    (put_full _ _ _ _ _ c.in_ok-put_u8.ensures
    (put_full _ _ _ _ _ c.in_ok-put_u8-2.ensures
    (full_front _ _ _ _ c.in_err-put_span.ensures)))

pub returns : goal.returns
returns c =
    puts_more c.put_span-2.result _ _ _ _ _ c.in_ok-put_u8.ensures
    (puts_more c.put_span-2.result _ _ _ _ _ c.in_ok-put_u8-2.ensures
    (puts_more c.put_span-2.result _ _ _ _ _ c.in_ok-put_span.ensures
    c.put_span-2.ensures))
