-- Frames at the beginning of a step. Assumes nothing.
use Rattle.std.specs.Prelude.{◌<◌}
use Rattle.format.specs.Limits.{max_instrs}
use Rattle.engine.specs.declared.frames.Frames.{Frames}
use Rattle.engine.specs.Views.{frames_of}
use Rattle.engine.specs.Stepping.{top_pc}

-- a frame stands, and the top one at an instruction of its code
pub record Ready (s : Frames) : Type 0 where
  pub some : 0 < s.count
  pub inside : top_pc (frames_of s) < max_instrs
