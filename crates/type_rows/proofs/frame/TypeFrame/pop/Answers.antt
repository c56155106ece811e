-- What was held is small.
use Rattle.std.proofs.Common.{◌≡◌, length, ◌∙◌, arith, rules}
use Rattle.type_rows.proofs.Cells.{seen_small, numbered_type}
use Rattle.type_rows.proofs.frame.TypeFrame.pop.Goals as goal

pub returns-clause-popped : goal.returns-clause-popped
returns-clause-popped c =
    let f = c.args.self.now in
    let s = c.over-stack.result in
    let long : length f.cells ≡ 16 = search rules in
    let high : s.height ≡ f.height = c.over-stack.ensures.height ∙ omega (arith, f.low, long) in
    let held = rw (c.over-stack.ensures.cells, high) at c.in_ok-n.ensures.popped.2 in
    rw (c.ok.ensures.value ∙ numbered_type c.try_from.result (seen_small f.cells f.height 0 c.in_ok-n.n _ f.small held) c.try_from.ensures, held)
    (search rules)
