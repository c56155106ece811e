-- What was seen on the stack is small, and stands for a type.
use Rattle.std.proofs.Common.{◌≡◌, length, ◌∙◌, arith, rules}
use Rattle.type_rows.proofs.Cells.{seen_small, numbered_type}
use Rattle.type_rows.proofs.CallTypes.{seen_type}
use Rattle.type_rows.proofs.frame.TypeFrame.below.Goals as goal

pub returns : goal.returns
returns c =
    let f = c.args.self.now in
    let s = c.over-stack.result in
    let n = c.in_ok-n.n in
    let long : length f.cells ≡ 16 = search rules in
    let high : s.height ≡ f.height = c.over-stack.ensures.height ∙ omega (arith, f.low, long) in
    let seen = rw (c.over-stack.ensures.cells, high) at c.in_ok-n.ensures.1 in
    rw (c.ok.ensures.value ∙ numbered_type c.try_from.result (seen_small f.cells f.height c.args.i n _ f.small seen) c.try_from.ensures)
    (seen_type f.cells f.height c.args.i n _ seen)
