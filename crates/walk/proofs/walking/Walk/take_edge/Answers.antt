-- What the edge sends is joined in, or nothing changes.
use Rattle.walk.proofs.Edges.{edge_inside, midway_quiet, midway_raised}
use Rattle.walk.proofs.walking.Walk.take_edge.Goals as goal

pub raise-requires-clause-node : goal.raise-requires-clause-node
raise-requires-clause-node g c =
    let p = c.requires in
    let u = p.underway in
    let m = g.A.Analysis.framework c.args.self.now.analysis.now in
    edge_inside m u.held p.settled u.inside p.node p.clean p.edge c.in-Some.ensures.sends

pub returns-in-Some : goal.returns-in-Some
returns-in-Some g c =
    let p = c.requires in
    let u = p.underway in
    let m = g.A.Analysis.framework c.args.self.now.analysis.now in
    let r = c.raise.ensures in
    let midway = midway_raised m u.held p.settled u.inside p.node p.clean p.edge c.in-Some.ensures.sends r.raised in
    record { underway = record { shown = r.shown; held = midway.held; inside = midway.inside }; midway = midway; behind = r.behind; analysis = r.analysis; same = r.same }

pub returns-in_default-clause-midway : goal.returns-in_default-clause-midway
returns-in_default-clause-midway g c =
    let p = c.requires in
    let u = p.underway in
    let m = g.A.Analysis.framework c.args.self.now.analysis.now in
    midway_quiet m u.held p.settled u.inside c.in_default.ensures.sends
