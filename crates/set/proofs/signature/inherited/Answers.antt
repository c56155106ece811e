-- The method that the superclass sees stands in the tables under its number.
use Rattle.std.proofs.Common.{sym, ap, ◌∙◌, Some, None}
use Rattle.jinja.specs.Classes.{maybe}
use Rattle.tables.specs.Views.{params_of, instrs_of, handlers_of, method_view, program_of}
use Rattle.set.proofs.Inherited.{inherited_at, unseen}
use Rattle.set.proofs.signature.inherited.Goals as goal

pub returns-in_err-k : goal.returns-in_err-k
returns-in_err-k c = rw c.from_residual.ensures (sym (unseen (program_of c.args.t.now) c.args.s c.args.name (sym c.in_err-k.ensures)))

pub returns : goal.returns
returns c =
    let t = c.args.t.now in
    ap (λ o. maybe o None (λ m. Some (method_view (params_of t) (instrs_of t) (handlers_of t) m))) c.method.ensures.«record»
    ∙ sym (inherited_at t c.args.s c.args.name c.in_ok-k.k (sym c.in_ok-k.ensures))
