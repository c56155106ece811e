-- A move of the top frame, as a step of all frames. Assumes nothing.
use Rattle.std.proofs.Common.{◌≡◌, ℕ, ◌+◌, ◌<◌, Some, None, List, length, get_or, set, refl}
use Rattle.std.specs.Prelude.{⊤}
use Rattle.heap.specs.Meaning.{Meaning}
use Rattle.jinja.specs.declared.instr.Instr.{Instr}
use Rattle.jinja.specs.Program.{Program}
use Rattle.jinja.specs.Lookups.{Owned}
use Rattle.engine.specs.declared.frame.Frame.{Frame}
use Rattle.engine.specs.declared.next.Next.TheVariants.{Goes}
use Rattle.engine.specs.Views.{frame_of, lowest_frames}
use Rattle.engine.specs.Moving.{Moves}
use Rattle.engine.specs.Stepping.{settle, exec_top}
use Rattle.engine.proofs.Tops.{lowest_set, lowest_top}

module _ (fs : List Frame) (k : ℕ) (d g : Frame) (l : k < length fs) (P : Program) (M : Owned) (i : Instr) (h : Meaning) where
  pub moved : {u : ⊤} → Moves P M i (frame_of (get_or fs k d)) (Some u) (frame_of g) → (Some Goes, h, lowest_frames (set fs k g) (k + 1)) ≡ settle h (lowest_frames fs (k + 1)) (exec_top P i h M (lowest_frames fs (k + 1)))
  moved {u} m = rw (lowest_top fs k d l, lowest_set fs k g l, m.does h (lowest_frames fs k))

  pub stayed : Moves P M i (frame_of (get_or fs k d)) None (frame_of g) → (None, h, lowest_frames (set fs k g) (k + 1)) ≡ settle h (lowest_frames fs (k + 1)) (exec_top P i h M (lowest_frames fs (k + 1)))
  stayed m = rw (lowest_top fs k d l, lowest_set fs k g l, m.does h (lowest_frames fs k), m.keeps refl)
