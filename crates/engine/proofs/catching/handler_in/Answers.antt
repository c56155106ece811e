use Rattle.std.proofs.Common.{Some, None, sym, ap, ◌∙◌}
use Rattle.jinja.specs.Lookups.{method_at}
use Rattle.jinja.specs.Step.{catcher}
use Rattle.tables.specs.Views.{program_of}
use Rattle.engine.proofs.Handlers.{by_method}
use Rattle.engine.proofs.catching.handler_in.Goals as goal

pub returns-in_err-method : goal.returns-in_err-method
returns-in_err-method c =
    let P = program_of c.args.program.tables.now in
    let f = c.args.frame.now in
    c.from_residual.ensures ∙ sym (by_method (method_at P f.method) None (λ m. catcher P m.handlers f.pc c.args.c) (c.method.ensures.numbered c.args.program.whole ∙ c.in_err-method.ensures.spans.method))

pub returns : goal.returns
returns c =
    let P = program_of c.args.program.tables.now in
    let f = c.args.frame.now in
    let s = c.in_ok-method.ensures.spans.method in
    let hs = rw s at c.handlers_of.ensures in
    ap Some (rw hs at c.catcher.ensures)
    ∙ sym (by_method (method_at P f.method) (Some _) (λ m. catcher P m.handlers f.pc c.args.c) (c.method.ensures.numbered c.args.program.whole ∙ s))
