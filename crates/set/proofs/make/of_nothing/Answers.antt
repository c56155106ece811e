-- No classes keep every rule.
use Rattle.std.proofs.Common.{length, sym, ap, ◌∙◌}
use Rattle.format.specs.Rules.{keeps}
use Rattle.jinja.specs.Lookups.{count_methods}
use Rattle.set.proofs.make.of_nothing.Goals as goal

pub invariant_of-result : goal.invariant_of-result
unfolding keeps
invariant_of-result c = record { kept = ap keeps c.requires.program; whole = ap count_methods c.requires.program ∙ sym (ap length c.requires.methods) }
