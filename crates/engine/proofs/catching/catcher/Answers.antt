use Rattle.std.proofs.Common.{sym, ap, ◌∙◌, arith}
use Rattle.std.proofs.lemmas.List.{drop_all}
use Rattle.jinja.specs.Step.{catcher}
use Rattle.tables.specs.Views.{program_of}
use Rattle.engine.proofs.Handlers.{catcher_here, catcher_on}
use Rattle.engine.proofs.catching.catcher.Goals as goal

pub returns-then-catches : goal.returns-then-catches
returns-then-catches c =
    sym (c.loop-handler.invariant ∙ catcher_here (program_of c.args.tables.now) c.args.handlers.now c.args.pc c.args.c c.loop-handler.handler-index _ c.loop-handler-test.true (sym c.if-catches.ensures))

pub loop-handler-preserved : goal.loop-handler-preserved
loop-handler-preserved c =
    c.loop-handler.invariant ∙ catcher_on (program_of c.args.tables.now) c.args.handlers.now c.args.pc c.args.c c.loop-handler.handler-index _ c.loop-handler-test.true (sym c.if-catches.ensures)

pub returns : goal.returns
returns c =
    sym (c.loop-handler.invariant ∙ ap (λ hs. catcher (program_of c.args.tables.now) hs c.args.pc c.args.c) (drop_all c.loop-handler.handler-index c.args.handlers.now (omega arith)))
