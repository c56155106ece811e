-- Type by type.
use Rattle.std.proofs.Common.{◌≡◌, ℕ, List, ◌++◌, map, length, drop, refl, ap, ◌∙◌, arith}
use Rattle.std.proofs.lemmas.List.{take_all}
use Rattle.jinja.specs.declared.ty.Ty.{Ty}
use Rattle.jinja.specs.Types.{type_number}
use Rattle.type_rows.proofs.FirstRow.{type_written}
use Rattle.type_rows.proofs.start.write_types.Goals as goal

pub loop-k-init : goal.loop-k-init
loop-k-init c = refl

pub loop-k-preserved : goal.loop-k-preserved
loop-k-preserved c = type_written c.args.types.now c.args.cells.now c.loop-k.cells c.loop-k.k c.from.result _ c.loop-k-test.true c.requires c.loop-k.invariant c.from.ensures

pub returns : goal.returns
returns c =
    let ts = c.args.types.now in
    let xs = c.args.cells.now in
    let k = c.loop-k.k in
    let z : k ≡ length ts = omega (arith, c.loop-k-test.false, c.loop-k.auto.k-end) in
    c.loop-k.invariant
    ∙ ap (λ (a : List Ty). map type_number a ++ drop k xs) (take_all k ts c.loop-k-test.false)
    ∙ ap (λ (a : ℕ). map type_number ts ++ drop a xs) z
