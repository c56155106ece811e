-- What a class sees is a method.
use Rattle.std.proofs.Common.{sym, ap, ◌∙◌}
use Rattle.jinja.specs.Lookups.{sees}
use Rattle.tables.specs.declared.tables.Tables.{Tables}
use Rattle.tables.specs.Views.{program_of}
use Rattle.set.specs.Sets.{tables_of}
use Rattle.verifier.specs.Accepted.{accepted_program}
use Rattle.verifier.proofs.Kept.{seen_method}
use Rattle.verifier.proofs.least.least_table.Goals as goal

pub write_least-requires-clause-there : goal.write_least-requires-clause-there
write_least-requires-clause-there c =
    let same = ap (λ (t : Tables). sees (program_of t) c.args.class c.args.name) (c.tables.ensures ∙ ap tables_of c.set.ensures) in
    seen_method (accepted_program c.args.accepted.now) c.args.class c.args.name (sym same ∙ sym c.sees-seen.ensures ∙ c.in_ok-ok_or.ensures.ok_part)
