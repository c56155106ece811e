-- The handlers of the tables are those of the program.
use Rattle.std.proofs.Common.{◌∙◌}
use Rattle.tables.proofs.Owners.{methods_numbered}
use Rattle.type_rows.proofs.Refused.{handlers_unowned}
use Rattle.type_rows.proofs.method.Method.handlers.Goals as goal

pub returns : goal.returns
returns c =
    let m = c.args.self.now in
    c.handlers_of.ensures ∙ handlers_unowned _ _ (methods_numbered m.tables.now m.number m.whole)
