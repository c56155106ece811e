use Rattle.std.proofs.lemmas.List.{take-set}
use Rattle.engine.proofs.Landing.{landed_set}
use Rattle.engine.proofs.throwing.land_at.Goals as goal

pub returns : goal.returns
returns c =
    record {
      after = landed_set c.args.handler c.args.frames.now c.args.k c.requires.within c.args.a c.index-frames-k.result c.go_with.new.self c.go_with.ensures;
      below = take-set c.args.frames.now c.args.k c.go_with.new.self;
    }
