use Rattle.std.proofs.Common.{◌≡◌, drop}
use Rattle.jinja.specs.Step.{catcher}
use Rattle.tables.specs.Views.{program_of}
use Rattle.engine.proofs.catching.catcher.Given as goal

abbrev pub invariant-loop-handler : goal.invariant-loop-handler
invariant-loop-handler l = catcher (program_of l.tables) l.handlers l.pc l.c ≡ catcher (program_of l.tables) (drop l.handler-index l.handlers) l.pc l.c
