use Rattle.tables.specs.Views.{program_of}
use Rattle.engine.proofs.Landing.{lands_read}
use Rattle.engine.proofs.throwing.lands_at.Goals as goal

pub returns : goal.returns
returns c =
    record {
      lands = lands_read c.args.handler c.args.frames.now c.args.k c.requires.within (program_of c.args.program.tables.now) c.index-frames-k.result c.lands.result c.index-frames-k.is c.lands.ensures.lands;
      low = c.lands.ensures.low;
    }
