use Rattle.std.proofs.Common.{get_or, arith}
use Rattle.std.proofs.lemmas.List.{take-set}
use Rattle.engine.proofs.Reading.{held_length}
use Rattle.engine.proofs.Tops.{lowest_top, lowest_set}
use Rattle.engine.proofs.standing.pass_with_at.Goals as goal

pub pass_with-requires : goal.pass_with-requires
pass_with-requires c =
    let d = c.index-frames-top.result in
    let f = get_or c.args.frames.now c.args.top d in
    let t = lowest_top c.args.frames.now c.args.top d c.requires.top in
    let n = held_length f.cells f.height (omega (arith, f.low, f.all_cells)) in
    record { inside = rw t at c.requires.inside; high = rw n at (rw t at c.requires.high); low = rw n at (rw t at c.requires.low) }

pub returns : goal.returns
returns c =
    let d = c.index-frames-top.result in
    record {
      after = rw (lowest_top c.args.frames.now c.args.top d c.requires.top, lowest_set c.args.frames.now c.args.top c.pass_with.new.self c.requires.top, c.pass_with.ensures);
      below = take-set c.args.frames.now c.args.top c.pass_with.new.self;
    }
