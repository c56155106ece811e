-- A program of no own classes has no methods. Assumes nothing.
use Rattle.std.proofs.Common.{◌≡◌, ℕ, [], None, sym, refl, ap, ◌∙◌}
use Rattle.jinja.specs.Program.{Program}
use Rattle.jinja.specs.Lookups.{method_at}
use Rattle.jinja.specs.Rows.{unreached}
use Rattle.jinja.proofs.Options.{conflict}
use Rattle.verifier.specs.Typable.{Typable}

none_at : (k : ℕ) → method_at [] k ≡ None
unfolding method_at
none_at k = refl

pub nothing_typable : (P : Program) → P ≡ [] → Typable P
nothing_typable P e = record { tables = λ k pc. unreached; least = λ k M m. absurd (conflict (sym (none_at k) ∙ ap (λ (Q : Program). method_at Q k) (sym e) ∙ m)) }
