-- Register by register.
use Rattle.std.proofs.Common.{ℕ, ◌+◌, ◌≤◌, List, ◌++◌, map, length, drop, replicate, ap, ◌∙◌, arith}
use Rattle.jinja.specs.declared.ty.Ty.{Ty}
use Rattle.jinja.specs.Rows as rows
use Rattle.jinja.specs.Types.{type_number}
use Rattle.type_rows.specs.Numbers.{absent}
use Rattle.type_rows.specs.Stepping.{owned}
use Rattle.type_rows.proofs.FirstRow.{first_written}
use Rattle.type_rows.proofs.method.Method.write_first.Goals as goal

pub returns : goal.returns
returns c =
    let m = c.args.self.now in
    let narrow : rows.registers (owned m) ≤ 16 = omega (arith, m.narrow, m.wide) in
    let written = ap (λ (l : List Ty). map type_number l ++ drop (length l) (replicate 15 absent)) c.params.ensures in
    c.write_row.ensures
    ∙ first_written (owned m) narrow c.from.result c.write_types.new.cells (c.from.ensures ∙ ap (λ (a : ℕ). 4 + a) c.owner.ensures) (c.write_types.ensures ∙ written)
