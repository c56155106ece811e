-- A method is typed or untypable by what the walk over its rows answers. Assumes nothing.
use Rattle.std.proofs.Common.{◌≡◌, ℕ, ◌≤◌, Some, None, Option, sym, refl, ap, ◌∙◌, subst, arith}
use Rattle.std.specs.Prelude.{List, length, MatchBool, Ok, Err, Result, is_ok}
use Rattle.format.proofs.WellFormed.{kept_is_well_formed}
use Rattle.jinja.specs.Program.{MethodDecl, Program}
use Rattle.jinja.specs.Lookups.{Owned, method_at}
use Rattle.jinja.specs.Rows.{Table, unreached}
use Rattle.jinja.specs.WellTyping as typing
use Rattle.jinja.proofs.Options.{conflict, some_inj}
use Rattle.tables.specs.Methods.{unowned}
use Rattle.tables.specs.Views.{methods_of}
use Rattle.tables.proofs.Owners.{methods_numbered}
use Rattle.tables.proofs.Standing.{method_lacks}
use Rattle.set.specs.declared.set.Set.{Set}
use Rattle.set.specs.Sets.{tables_of, set_program}
use Rattle.walk.specs.declared.unsolved.Unsolved.{Unsolved}
use Rattle.walk.specs.declared.unsolved.Unsolved.TheVariants.{Refused, Short}
use Rattle.walk.specs.Answers.{Answers}
use Rattle.walk.specs.Solution.{Least, Unsolvable}
use Rattle.type_rows.specs.declared.method.Method.{Method}
use Rattle.type_rows.specs.Frameworks.{method_stands, method_framework}
use Rattle.type_rows.specs.Merging.{Merge}
use Rattle.type_rows.specs.Stepping.{program, owned, MethodOf}
use Rattle.type_rows.specs.Typings.{rows_of}
use Rattle.type_rows.proofs.Typings.{typed_by_solving}
use Rattle.verifier.specs.Limits.{workspace_length}
use Rattle.verifier.specs.Typable.{Typable}
use Rattle.verifier.specs.Verdicts.{TypedAt, UntypedAt}

module _ (m : Method) (P : Program) (k : ℕ) (is : MethodOf P k m) where
  pub method_there : method_at P k ≡ Some (owned m)
  method_there = sym (ap (λ (Q : Program). method_at Q m.number) is.of_program ∙ ap (method_at P) is.of_number) ∙ method_stands m

  pub least_solved : (T : ℕ → Merge) → Least (method_framework m) T → typing.Least P (owned m) (rows_of T)
  least_solved T l =
      subst (λ (Q : Program). typing.Least Q (owned m) (rows_of T)) is.of_program
      ((typed_by_solving (program m) (owned m) m.number (kept_is_well_formed (program m) m.kept) (method_stands m) m.short).least T l)

  pub solved_typed : (T : ℕ → Merge) → Least (method_framework m) T → TypedAt P k
  solved_typed T l M e = (rows_of T, subst (λ (N : Owned). typing.Least P N (rows_of T)) (some_inj (sym method_there ∙ e)) (least_solved T l))

  pub unsolved_untyped : Unsolvable (method_framework m) → UntypedAt P k
  unsolved_untyped u = record {
    method = owned m;
    stands = method_there;
    untypable =
        subst (λ (Q : Program). typing.Untypable Q (owned m)) is.of_program
        ((typed_by_solving (program m) (owned m) m.number (kept_is_well_formed (program m) m.kept) (method_stands m) m.short).none u);
  }

  -- with room for its rows the walk is solved exactly where the method is typed
  pub solved_exactly : (ws ws' : List ℕ) → workspace_length ≤ length ws → (r : Result (Unit {0}) Unsolved) → Answers (method_framework m) ws ws' r → MatchBool (is_ok r) (TypedAt P k) (UntypedAt P k)
  solved_exactly ws ws' room (Ok _) h = solved_typed _ h.2
  solved_exactly ws ws' room (Err Refused) h = unsolved_untyped h.1
  solved_exactly ws ws' room (Err Short) h = absurd (let few = m.short in omega (arith, h.0))

none_typed : (P : Program) (k : ℕ) → method_at P k ≡ None → TypedAt P k
none_typed P k n M e = absurd (conflict (sym n ∙ e))

no_owned : (o : Option Owned) (p : Option MethodDecl) → unowned o ≡ p → p ≡ None → o ≡ None
no_owned None p e n = refl
no_owned (Some N) p e n = absurd (conflict (sym n ∙ sym e))

-- no method has a number from the count on
pub past_typed : (s : Set) (k : ℕ) → length (methods_of (tables_of s)) ≤ k → TypedAt (set_program s) k
past_typed s k l = none_typed (set_program s) k (no_owned _ _ (methods_numbered (tables_of s) k s.whole) (method_lacks (tables_of s) k l).method)

chosen : {P : Program} (o : Option Owned) → ((M : Owned) → o ≡ Some M → (rows : Table) × typing.Least P M rows) → Table
chosen None f = λ pc. unreached
chosen (Some M) f = (f M refl).0

chosen_least : {P : Program} (o : Option Owned) (f : (M : Owned) → o ≡ Some M → (rows : Table) × typing.Least P M rows) (M : Owned) → o ≡ Some M → typing.Least P M (chosen o f)
unfolding chosen
chosen_least None f M e = absurd (conflict e)
chosen_least {P} (Some N) f M e = subst (λ (X : Owned). typing.Least P X (f N refl).0) (some_inj e) (f N refl).1

-- where each method has a least well-typing, there is one table for each
pub all_typable : (P : Program) → ((k : ℕ) → TypedAt P k) → Typable P
all_typable P f = record { tables = λ k. chosen (method_at P k) (f k); least = λ k M e. chosen_least (method_at P k) (f k) M e }
