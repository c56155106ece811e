-- The first item of that name.
use Rattle.std.proofs.Common.{rules}
use Rattle.std.proofs.lemmas.Iterator.{IsFirst-from_position, YieldsList-from_slice}
use Rattle.tables.proofs.Positions.{Has, Lacks, position_first}
use Rattle.tables.proofs.names.position_of.Goals as goal
use borrow.Author.Tests.{tests}

pub returns-clause-place : goal.returns-clause-place
returns-clause-place g c =
    let called = g.T.Named.called in
    let n = c.args.name in
    position_first called n c.position.result c.args.items.now
    (IsFirst-from_position _ _ _ (Has called n) (Lacks called n) c.position.ensures.ran (YieldsList-from_slice c.args.items.now cc) (λ x q k. search (rules, tests)) (λ x q k. search (rules, tests)))
