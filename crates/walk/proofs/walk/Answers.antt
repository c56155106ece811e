-- What the walk over the rows answers is the answer.
use Rattle.std.proofs.Common.{◌≡◌, ℕ, List, rules, subst, arith}
use Rattle.std.specs.Prelude.{MatchResult, Ok, Err, Result}
use Rattle.walk.specs.declared.unsolved.Unsolved.{Unsolved}
use Rattle.walk.specs.declared.unsolved.Unsolved.TheVariants.{Refused}
use Rattle.walk.specs.Answers.{Answers}
use Rattle.walk.specs.Framework.{Framework}
use Rattle.walk.specs.Rows.{Room, table, Shown}
use Rattle.walk.specs.Solution.{Least, Unsolvable}
use Rattle.walk.proofs.walk.Goals as goal

answered : (m : Framework) (xs xs' : List ℕ) (r : Result (Unit {0}) Unsolved) → Room m xs → Shown m xs' → MatchResult r (λ _. Least m (table m xs')) (λ e. (e ≡ Refused) × Unsolvable m) → Answers m xs xs' r
answered m xs xs' (Ok _) room shown h = (room, shown, h)
answered m xs xs' (Err e) room shown h = rw h.0 (room, h.1)

pub returns-clause-answer : goal.returns-clause-answer
returns-clause-answer g c =
    let m = g.A.Analysis.framework c.args.a.now in
    let xs = c.args.workspace.now in
    let ensures = c.settle.ensures in
    let t = rw c.begin.ensures.analysis at ensures in
    let h = answered m xs c.settle.new.self.workspace.now c.settle.result (omega arith) t.underway.shown t.answer in
    subst (λ (ys : List ℕ). Answers m xs ys c.settle.result) (search rules) h
