use Rattle.std.proofs.Common.{sym, subst}
use Rattle.tables.specs.declared.tables.Tables.{Tables}
use Rattle.tables.specs.Views.{program_of}
use Rattle.tables.specs.Methods.{Whole}
use Rattle.engine.specs.Limits.{Fitting}
use Rattle.engine.proofs.Limited.{fitting}
use Rattle.engine.proofs.program.Program.of.Goals as goal

pub invariant_of-result : goal.invariant_of-result
invariant_of-result c =
    let s = c.args.set.now in
    let e = sym c.tables-tables.ensures in
    record { whole = subst Whole e s.whole; fitting = subst (λ (t : Tables). Fitting (program_of t)) e (fitting (program_of s.tables) s.kept) }
