-- The code of the tables is that of the program.
use Rattle.std.proofs.Common.{length, ap, ◌∙◌}
use Rattle.tables.proofs.Owners.{methods_numbered}
use Rattle.type_rows.proofs.Refused.{code_unowned}
use Rattle.type_rows.proofs.method.Method.count.Goals as goal

pub returns : goal.returns
returns c =
    let m = c.args.self.now in
    ap length (c.code_of-code.ensures ∙ code_unowned _ _ (methods_numbered m.tables.now m.number m.whole))
