-- Successors first, then the handlers.
use Rattle.std.proofs.Common.{◌-◌, List, length, Option, sym, refl, ap, ◌∙◌, arith}
use Rattle.std.proofs.lemmas.Option.{slice_get_read}
use Rattle.std.specs.List.{slice_get}
use Rattle.format.proofs.WellFormed.{kept_is_well_formed}
use Rattle.jinja.specs.declared.program.Handler.{Handler}
use Rattle.jinja.specs.Classes.{maybe}
use Rattle.walk.specs.Flow.{nothing}
use Rattle.type_rows.specs.MethodFlow.{to_handler}
use Rattle.type_rows.specs.TypeFrames.{frame_types, frame_cells}
use Rattle.type_rows.specs.Stepping.{program, owned}
use Rattle.type_rows.proofs.EdgesSent.{next_edge, later_edge, no_branch}
use Rattle.type_rows.proofs.method.Method.send_reached.Goals as goal

pub returns-then-not-branches : goal.returns-then-not-branches
returns-then-not-branches c =
    let m = c.args.self.now in
    let f = c.args.frame in
    record { sends = no_branch (kept_is_well_formed (program m) m.kept) (owned m) c.args.site.instr c.args.site.pc (frame_types f) (frame_cells m.registers f) c.args.e c.if-e-eq1.true c.if-not-branches.ensures; reached = tt }

pub returns-then-e-lt2 : goal.returns-then-e-lt2
returns-then-e-lt2 c =
    let m = c.args.self.now in
    let f = c.args.frame in
    record {
      sends = next_edge (program m) (owned m) c.args.site.instr c.args.site.pc (frame_types f) (frame_cells m.registers f) c.args.e (omega (arith, c.if-e-lt2.true)) ∙ c.send_next.ensures.sends;
      reached = c.send_next.ensures.reached;
    }

pub returns-clause-sends : goal.returns-clause-sends
returns-clause-sends c =
    let m = c.args.self.now in
    let P = program m in
    let f = c.args.frame in
    let st = frame_types f in
    let lt = frame_cells m.registers f in
    let hs = c.handlers.result.now in
    let found = c.in_ok-handler.ensures.lookup in
    let at = ap (λ (l : List Handler). slice_get l (c.args.e - 2)) (sym c.handlers.ensures) ∙ slice_get_read hs (length hs) (c.args.e - 2) c.in_ok-handler.field-0.now refl found.3.0 found.1 in
    later_edge P (owned m) c.args.site.instr c.args.site.pc st lt c.args.e (omega (arith, c.if-e-lt2.false)) ∙ ap (λ (o : Option Handler). maybe o nothing (λ x. to_handler P x c.args.site.instr c.args.site.pc st lt)) at ∙ c.send_to_handler.ensures.sends
