-- Frames that wait for a call to return: each stands at an instruction of its code. Assumes nothing.
use Rattle.std.specs.Prelude.{◌<◌}
use Rattle.format.specs.Limits.{max_instrs}
use Rattle.engine.specs.declared.frame.Frame.{Frame}

abbrev pub Waits : Frame → Type 0
Waits f = f.pc < max_instrs
