-- A word that is not 0 marks a node; where all are 0, none is marked.
use Rattle.std.proofs.Common.{◌≡◌, ◌^◌, ◌<◌, get_or, rules, tests, arith}
use Rattle.std.proofs.lemmas.Iterator.{YieldsList-from_slice, IsFirst-from_position}
use Rattle.walk.proofs.Words.{none_marked, found_marked}
use Rattle.walk.proofs.marks.Marks.first.Goals as goal

pub returns-in_err-w : goal.returns-in_err-w
returns-in_err-w c =
    let ws = c.args.self.now.words in
    let found = IsFirst-from_position _ _ c.position.result (λ w. 0 < w) (λ w. w ≡ 0) c.position.ensures.ran (YieldsList-from_slice ws c.iter.ensures.rest) (λ x q k. search (rules, tests)) (λ x q k. search (rules, tests)) in
    let none = rw c.in_err-w.was at found in
    rw c.from_residual.ensures (none_marked ws (λ v l. none v 0 (omega arith) l))

pub returns : goal.returns
returns c =
    let ws = c.args.self.now.words in
    let w = c.in_ok-w.w in
    let found = IsFirst-from_position _ _ c.position.result (λ w. 0 < w) (λ w. w ≡ 0) c.position.ensures.ran (YieldsList-from_slice ws c.iter.ensures.rest) (λ x q k. search (rules, tests)) (λ x q k. search (rules, tests)) in
    let some = rw c.in_ok-w.was at found in
    let fits : get_or ws w 0 < 2 ^ 64 = search rules in
    found_marked ws w fits (some.1 0)
