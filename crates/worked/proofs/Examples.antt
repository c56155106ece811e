-- The worked examples stand: files, sweeps and runs by computing. Assumes nothing.
use Rattle.std.proofs.Common.{◌≡◌, ℕ, zero, suc, Bool, true, false, ◌&&◌, ltb, List, [], ◌∷◌, map, Some, None, Ok, Err, refl, subst, arith}
use Rattle.std.specs.List.{slice_get, AllByRecursion}
use Rattle.std.specs.Int.{int_wrap}
use Rattle.std.proofs.lemmas.Bool.{and_parts, ltb-true, false≢true}
use Rattle.number.specs.declared.fault.NumberFault.TheVariants.{Cut, Padded}
use Rattle.number.specs.Laws.{AllBytes}
use Rattle.number.specs.Numbers.{number_at}
use Rattle.jinja.specs.declared.answer.Answer.{Answer}
use Rattle.jinja.specs.declared.answer.Answer.TheVariants.{Finished, FramesFull}
use Rattle.jinja.specs.Answers.{answer_number}
use Rattle.jinja.specs.Program.{Program}
use Rattle.jinja.specs.Classes.{table, superclass_of, at_or_below}
use Rattle.jinja.specs.Lookups.{Owned, methods_from, fields_of, method_at, own_method, sees}
use Rattle.jinja.specs.Rows.{Row}
use Rattle.jinja.specs.Join.{nearest}
use Rattle.jinja.specs.WellTyping.{LeastTypings}
use Rattle.jinja.specs.Values.{class_of, fits}
use Rattle.jinja.specs.History.{replies, step_answers}
use Rattle.jinja.proofs.Options.{conflict, some_inj}
use Rattle.format.specs.declared.fault.TableFault.{TableFault}
use Rattle.format.specs.declared.fault.TableFault.TheVariants.{Number, LeftOver}
use Rattle.format.specs.Faults.{table_fault_number, table_fault_place}
use Rattle.format.specs.Rules.{each, keeps}
use Rattle.format.specs.Parse.{method_at as method_read, class_at, classes_at, parse}
use Rattle.format.proofs.RoundTrip.{read_was_written}
use Rattle.format.proofs.WellFormed.{kept_is_well_formed}
use Rattle.worked.specs.Standing.{refused, accepted, Run, listed, tables, FirstUntypable, machine, calls, answers_of, replies_of, Comes, Stands}
use Rattle.worked.specs.Programs.{adding_rows, calling_rows, mixing_rows}
use Rattle.worked.specs.Examples.{ExamplesStand}
use Rattle.worked.proofs.Sweep.{swept, is_least, broken_untypable, least_found}

-- a test of LeastTypings
abbrev are_least : Program → List Owned → List (List Row) → Bool
are_least P [] ts = true
are_least P (M ∷ Ms) [] = false
are_least P (M ∷ Ms) (t ∷ ts) = is_least P M (listed t) && are_least P Ms ts

least_at : (P : Program) (Ms : List Owned) (ts : List (List Row)) → are_least P Ms ts ≡ true → (k : ℕ) {M : Owned} → slice_get Ms k ≡ Some M → is_least P M (tables ts k) ≡ true
least_at P [] ts e k m = absurd (conflict m)
least_at P (N ∷ Ms) [] e k m = absurd (false≢true e)
least_at P (N ∷ Ms) (t ∷ ts) e zero m = subst (λ M. is_least P M (listed t) ≡ true) (some_inj m) (and_parts (is_least P N (listed t)) _ e).0
least_at P (N ∷ Ms) (t ∷ ts) e (suc k) m = least_at P Ms ts (and_parts (is_least P N (listed t)) _ e).1 k m

all_least : {P : Program} (ts : List (List Row)) → keeps P ≡ true → are_least P (methods_from 0 (table P)) ts ≡ true → LeastTypings P (tables ts)
unfolding method_at
all_least {P} ts kept e k M m = least_found (kept_is_well_formed P kept) k m (tables ts k) (least_at P (methods_from 0 (table P)) ts e k m)

-- a file of bytes
abbrev are_bytes : List ℕ → Bool
are_bytes file = each (λ b. ltb b 256) file

bytes_found : (file : List ℕ) → are_bytes file ≡ true → AllBytes file
bytes_found [] e = tt
bytes_found (b ∷ bs) e = let p = and_parts (ltb b 256) _ e in (ltb-true b 256 p.0, bytes_found bs p.1)

kept : (file : List ℕ) {P : Program} → are_bytes file ≡ true → parse file ≡ Ok P → keeps P ≡ true
kept file {P} b read = (read_was_written file P (bytes_found file b) read).1

-- what stands of a file that is accepted, of one that is read and not typable, and of one that is not read
module _ {file : List ℕ} (b : are_bytes file ≡ true) where
  module _ {P : Program} (read : parse file ≡ Ok P) where
    accepts : (ts : List (List Row)) {rs : List Run} → are_least P (methods_from 0 (table P)) ts ≡ true → AllByRecursion (Comes P) rs → Stands (record { file = file; program = P; verdict = accepted ts; runs = rs })
    accepts ts e rs = record { bytes = bytes_found file b; holds = rw read; kept = kept file b read; loads = rw read (all_least ts (kept file b read) e); runs = rs }

    rejects : {M : Owned} → method_at P 0 ≡ Some M → swept P M ≡ None → Stands (record { file = file; program = P; verdict = refused 11 0; runs = [] })
    rejects {M} m e = record { bytes = bytes_found file b; holds = rw read; kept = kept file b read; loads = rw read (refl, first); runs = tt }
      where
        first : FirstUntypable P 0
        first = record { before = λ j N l q. absurd (omega arith); method = M; stands = m; untypable = broken_untypable (kept_is_well_formed P (kept file b read)) 0 m e }

  refuses : (f : TableFault) → parse file ≡ Err f → Stands (record { file = file; program = []; verdict = refused (table_fault_number f) (table_fault_place f); runs = [] })
  unfolding keeps
  refuses f e = record { bytes = bytes_found file b; holds = rw e; kept = refl; loads = rw e (refl, refl); runs = tt }

ran : {P : Program} {r : Run} (last : Answer) → map answer_number (step_answers P (calls r) machine) ≡ answers_of r → answer_number last ≡ r.next → replies P (calls r) machine ≡ replies_of r last → Comes P r
ran last a n e = record { answers = a; last = last; number = n; replied = e }

-- one fact, and those that follow
infixr 5 ◌also◌
◌also◌ : {A B : Type 0} → A → B → A × B
a also b = (a, b)

pub examples_stand : ExamplesStand
unfolding number_at superclass_of at_or_below fields_of method_at own_method sees nearest class_of fits int_wrap method_read class_at classes_at parse
examples_stand =
    accepts refl refl (adding_rows ∷ []) refl (ran Finished refl refl refl also tt)
    also rejects refl refl refl refl
    also refuses refl (Number (Cut 18)) refl
    also refuses refl (LeftOver 19) refl
    also refuses refl (Number (Padded 9)) refl
    also accepts refl refl [] refl tt
    also rejects refl refl refl refl
    also accepts refl refl (mixing_rows ∷ []) refl (ran Finished refl refl refl also ran Finished refl refl refl also tt)
    also accepts refl refl (adding_rows ∷ []) refl (ran Finished refl refl refl also tt)
    also accepts refl refl (calling_rows ∷ []) refl (ran FramesFull refl refl refl also tt)
    also tt
