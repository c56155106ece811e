-- A method's number is its place in the tables.
use Rattle.std.proofs.Common.{◌∙◌}
use Rattle.tables.proofs.Owners.{methods_numbered}
use Rattle.type_rows.proofs.Refused.{own_params_unowned}
use Rattle.type_rows.proofs.method.Method.params.Goals as goal

pub returns : goal.returns
returns c =
    let m = c.args.self.now in
    c.params_of.ensures ∙ own_params_unowned _ _ (methods_numbered m.tables.now m.number m.whole)
