-- A method, part by part.
use Rattle.number.proofs.Putting.{full_front, put_full, puts_more}
use Rattle.writer.proofs.Exits.{refused}
use Rattle.writer.proofs.records.put_method.Goals as goal

pub returns-in-err-put-u8 : goal.returns-in-err-put-u8
returns-in-err-put-u8 c =
    refused c.from-residual.result c.from-residual.ensures.0 _ _ _
    (full_front _ _ _ _ c.in-err-put-u8.ensures)

pub returns-in-err-put-span : goal.returns-in-err-put-span
returns-in-err-put-span c =
    refused c.from-residual-in-err-put-span.result c.from-residual-in-err-put-span.ensures.0 _ _ _
    (put_full _ _ _ _ _ c.in-ok-put-u8.ensures
    (full_front _ _ _ _ c.in-err-put-span.ensures))

pub returns-in-err-put-type : goal.returns-in-err-put-type
returns-in-err-put-type c =
    refused c.from-residual-in-err-put-type.result c.from-residual-in-err-put-type.ensures.0 _ _ _
    (put_full _ _ _ _ _ c.in-ok-put-u8.ensures
    (put_full _ _ _ _ _ c.in-ok-put-span.ensures
    (full_front _ _ _ _ c.in-err-put-type.ensures)))

pub returns : goal.returns
returns c =
    puts_more c.put-body.result _ _ _ _ _ c.in-ok-put-u8.ensures
    (puts_more c.put-body.result _ _ _ _ _ c.in-ok-put-span.ensures
    (puts_more c.put-body.result _ _ _ _ _ c.in-ok-put-type.ensures
    c.put-body.ensures))
