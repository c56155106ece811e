use Rattle.std.proofs.lemmas.List.{take-set}
use Rattle.engine.proofs.Tops.{lowest_top}
use Rattle.engine.proofs.Settled.{moved, stayed}
use Rattle.engine.proofs.standing.local_at.Goals as goal

pub local-requires : goal.local-requires
local-requires g c =
    let t = lowest_top c.args.frames.now c.args.top c.index-frames-top.result c.requires.top in
    record { inside = rw t at c.requires.inside }

pub returns : goal.returns
returns g c =
    record {
      after = λ P M e s l h. moved c.args.frames.now c.args.top c.index-frames-top.result c.local.new.self c.requires.top P M c.args.instr h (c.in_ok-local.ensures P M e s l);
      below = take-set c.args.frames.now c.args.top c.local.new.self;
    }

pub returns-in_err-local : goal.returns-in_err-local
returns-in_err-local g c =
    record {
      after = λ P M e s l h. rw c.from_residual.ensures (stayed c.args.frames.now c.args.top c.index-frames-top.result c.local.new.self c.requires.top P M c.args.instr h (c.in_err-local.ensures P M e s l));
      below = take-set c.args.frames.now c.args.top c.local.new.self;
    }
