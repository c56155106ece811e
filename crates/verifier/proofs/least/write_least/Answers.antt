-- The least solution is the least well-typing, row by row.
use Rattle.std.proofs.Common.{◌≡◌, ℕ, ◌-◌, ◌*◌, List, ◌++◌, length, take, replicate, ap, ◌∙◌, subst}
use Rattle.set.specs.declared.set.Set.{Set}
use Rattle.set.specs.Sets.{set_program}
use Rattle.walk.specs.Rows.{table}
use Rattle.type_rows.specs.Frameworks.{method_framework}
use Rattle.type_rows.specs.Numbers.{absent}
use Rattle.type_rows.specs.Stepping.{owned, MethodOf}
use Rattle.type_rows.specs.Typings.{rows_of}
use Rattle.verifier.specs.Accepted.{accepted_program}
use Rattle.verifier.specs.LeastTables.{table_numbers}
use Rattle.verifier.proofs.Kept.{accepted_solved}
use Rattle.verifier.proofs.Solved.{method_there, least_solved}
use Rattle.verifier.proofs.least.write_least.Goals as goal

pub returns-in-Some : goal.returns-in-Some
returns-in-Some c =
    let a = c.args.accepted.now in
    let k = c.args.k in
    let m = c.in-Some.method in
    let P = accepted_program a in
    let is = subst (λ (s : Set). MethodOf (set_program s) k m) c.set.ensures c.in-Some.ensures in
    let T = table (method_framework m) c.walk-solved.new.workspace in
    let solved = accepted_solved a k m is c.args.workspace.now c.walk-solved.new.workspace c.requires.room c.walk-solved.result c.walk-solved.ensures.answer in
    let ws = c.hand_out_rows.new.workspace in
    let n = length (owned m).method.code in
    let long : length ws ≡ length c.args.workspace.now = c.hand_out_rows.auto.workspace ∙ c.walk-solved.auto.workspace in
    record {
      method = owned m;
      stands = method_there m P k is;
      rows = rows_of T;
      least = least_solved m P k is T solved;
      numbers =
          c.clear_from.ensures
          ∙ ap (λ (j : ℕ). take (j * 33) ws ++ replicate (length ws - j * 33) absent) c.count.ensures
          ∙ ap (λ (l : List ℕ). l ++ replicate (length ws - n * 33) absent) c.hand_out_rows.ensures
          ∙ ap (λ (j : ℕ). table_numbers (rows_of T) n ++ replicate (j - n * 33) absent) long;
    }
