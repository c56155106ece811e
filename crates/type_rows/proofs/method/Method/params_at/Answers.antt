-- A method's number is its place in the tables.
use Rattle.std.proofs.Common.{◌∙◌}
use Rattle.tables.proofs.Owners.{methods_numbered}
use Rattle.type_rows.proofs.CallTypes.{params_unowned}
use Rattle.type_rows.proofs.method.Method.params_at.Goals as goal

pub returns : goal.returns
returns c =
    let m = c.args.self.now in
    let t = m.tables.now in
    c.params_of.ensures ∙ params_unowned _ _ (methods_numbered t c.args.k m.whole)
