use Rattle.std.proofs.Common.{◌≡◌, ℕ}
use Rattle.heap.specs.Meaning.{Meaning}
use Rattle.jinja.specs.Step.{unwind}
use Rattle.tables.specs.Views.{program_of}
use Rattle.engine.specs.Views.{lowest_frames}
use Rattle.engine.proofs.catching.find.Given as goal

abbrev pub invariant-loop-k : goal.invariant-loop-k
invariant-loop-k l = (h : Meaning) (a : ℕ) → unwind (program_of l.program.tables.now) h a l.c (lowest_frames l.frames l.count) ≡ unwind (program_of l.program.tables.now) h a l.c (lowest_frames l.frames l.k)
