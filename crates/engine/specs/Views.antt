-- The frames that stand in memory and the program that they run, as the subject has them. Assumes nothing.
use Rattle.std.specs.Prelude.{ℕ, List, map, take}
use Rattle.stack.specs.Stacked.{held}
use Rattle.jinja.specs.Step.{Frame as Activation}
use Rattle.jinja.specs.Program.{Program}
use Rattle.tables.specs.Views.{program_of}
use Rattle.engine.specs.declared.frame.Frame.{Frame}
use Rattle.engine.specs.declared.frames.Frames.{Frames}
use Rattle.engine.specs.declared.program.Program.{Program as Held}

-- the operand stack with the top first
abbrev pub frame_of : Frame → Activation
frame_of f = record { method = f.method; pc = f.pc; stack = held f.cells f.height; registers = take f.register_count f.registers }

-- the lowest n frames, the top one first
abbrev pub lowest_frames : List Frame → ℕ → List Activation
lowest_frames fs n = held (map frame_of fs) n

abbrev pub frames_of : Frames → List Activation
frames_of s = lowest_frames s.frames s.count

abbrev pub meaning_of : Held → Program
meaning_of p = program_of p.tables.now
