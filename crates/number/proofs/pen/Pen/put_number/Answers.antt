-- Each turn puts the first byte of those that are left.
use Rattle.std.proofs.Common.{◌+◌, ◌/◌, ◌%◌, [], ◌∷◌, ◌++◌, refl, subst, arith}
use Rattle.std.proofs.lemmas.Result.{err_from_is_err_and}
use Rattle.number.specs.Numbers.{bytes, bytes_by}
use Rattle.number.specs.Puts.{Full, Puts}
use Rattle.number.proofs.Putting.{put_none, put_more, put_full, full_front, puts_more}
use Rattle.number.proofs.Bytes.{step_bytes, last_bytes}
use Rattle.number.proofs.pen.Pen.put_number.Goals as goal

pub loop-rest-init : goal.loop-rest-init
unfolding bytes
loop-rest-init c = ([], 4, put_none _, refl, omega arith)

pub returns-in_err-put : goal.returns-in_err-put
returns-in_err-put c =
    let p = err_from_is_err_and c.from_residual.result c.from_residual.ensures.1 in
    let i = c.loop-rest.invariant in
    let g = step_bytes i.0 (bytes c.args.n) i.1 c.loop-rest.rest (omega arith) i.4 i.3 in
    let f = full_front _ _ _ (bytes_by g.0 (c.loop-rest.rest / 128)) (put_full _ _ _ i.0 _ i.2 (simp c.lowest_group.ensures at c.in_err-put.ensures)) in
    rw p.1 (subst (Full _ _) g.1 f)

pub loop-rest-preserved : goal.loop-rest-preserved
loop-rest-preserved c =
    let i = c.loop-rest.invariant in
    let g = step_bytes i.0 (bytes c.args.n) i.1 c.loop-rest.rest (omega arith) i.4 i.3 in
    (i.0 ++ (c.loop-rest.rest % 128 + 128) ∷ [], g.0, put_more _ _ _ i.0 _ i.2 (simp c.lowest_group.ensures at c.in_ok-put.ensures), g.1, g.2)

pub returns : goal.returns
returns c =
    let i = c.loop-rest.invariant in
    subst (Puts c.put-2.result _ _) (last_bytes i.0 (bytes c.args.n) i.1 c.loop-rest.rest (omega arith) i.3) (puts_more c.put-2.result _ _ _ i.0 _ i.2 c.put-2.ensures)
