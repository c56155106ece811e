-- The types below are those of the lower cells.
use Rattle.std.proofs.Common.{◌≡◌, ◌≤◌, map, length, sym, ap, ◌∙◌, arith, rules}
use Rattle.std.proofs.lemmas.List.{drop-map}
use Rattle.jinja.specs.Types.{type_of_number}
use Rattle.stack.proofs.Held.{held_drop}
use Rattle.stack.specs.Stacked.{held}
use Rattle.type_rows.proofs.Cells.{types_height}
use Rattle.type_rows.proofs.frame.TypeFrame.discard.Goals as goal

pub returns-clause-left : goal.returns-clause-left
returns-clause-left c =
    let f = c.args.self.now in
    let long : length f.cells ≡ 16 = search rules in
    let low : f.height ≤ length f.cells = omega (arith, f.low) in
    sym
    (drop-map type_of_number c.args.n (held f.cells f.height)
    ∙ ap (map type_of_number) (held_drop f.cells f.height c.args.n (omega (arith, c.requires, types_height f.cells f.height low)) low))
