-- The walk over a method of an accepted set has a solution. Assumes nothing.
use Rattle.std.proofs.Common.{◌≡◌, ℕ, ◌≤◌, List, length, Some, arith}
use Rattle.std.specs.Prelude.{Ok, Err, Result}
use mathlib.Core.Logic.{∥∥₁_elim}
use Rattle.format.proofs.Found.{seen_declared, own_found}
use Rattle.jinja.specs.Program.{Program}
use Rattle.jinja.specs.Lookups.{sees}
use Rattle.walk.specs.declared.unsolved.Unsolved.{Unsolved}
use Rattle.walk.specs.declared.unsolved.Unsolved.TheVariants.{Refused, Short}
use Rattle.walk.specs.Answers.{Answers}
use Rattle.walk.specs.Rows.{table}
use Rattle.walk.specs.Solution.{Least}
use Rattle.type_rows.specs.declared.method.Method.{Method}
use Rattle.type_rows.specs.Frameworks.{method_framework}
use Rattle.type_rows.specs.Stepping.{MethodOf}
use Rattle.verifier.specs.declared.accepted.Accepted.{Accepted}
use Rattle.verifier.specs.Accepted.{accepted_program}
use Rattle.verifier.specs.LeastTables.{HasMethod}
use Rattle.verifier.specs.Limits.{workspace_length}
use Rattle.verifier.specs.Typable.{Typable}
use Rattle.verifier.specs.Verdicts.{UntypedAt}
use Rattle.verifier.proofs.Solved.{unsolved_untyped}

no_untyped : (P : Program) (k : ℕ) → ∥ (Typable P) ∥₁ → UntypedAt P k → ⊥
no_untyped P k t u = ∥∥₁_elim t (λ x y. absurd x) (λ a. u.untypable (a.tables k) (a.least k u.method u.stands).typing)

pub accepted_solved : (a : Accepted) (k : ℕ) (m : Method) → MethodOf (accepted_program a) k m → (ws ws' : List ℕ) → workspace_length ≤ length ws → (r : Result (Unit {0}) Unsolved) → Answers (method_framework m) ws ws' r → Least (method_framework m) (table (method_framework m) ws')
accepted_solved a k m is ws ws' room (Ok _) h = h.2
accepted_solved a k m is ws ws' room (Err Refused) h = absurd (no_untyped (accepted_program a) k a.typed (unsolved_untyped m (accepted_program a) k is h.1))
accepted_solved a k m is ws ws' room (Err Short) h = absurd (let few = m.short in omega (arith, h.0))

-- what a class sees is a method of the program
pub seen_method : (P : Program) (c m : ℕ) {k : ℕ} → sees P c m ≡ Some k → HasMethod P k
unfolding sees
seen_method P c m e =
    let own = seen_declared P c c m e in
    (_, (own_found P own.0 m own.1).numbered)
