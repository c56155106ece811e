-- The needs, the successors and the handlers together.
use Rattle.std.proofs.Common.{ℕ, Bool, not, ◌&&◌, length, sym, ap, ◌∙◌}
use Rattle.type_rows.specs.Leading.{leads}
use Rattle.type_rows.specs.MethodFlow.{all_inside}
use Rattle.type_rows.specs.Refusing.{handlers_pass}
use Rattle.type_rows.specs.TypeFrames.{frame_types, frame_cells}
use Rattle.type_rows.specs.Stepping.{program, owned}
use Rattle.type_rows.proofs.Refused.{refused_told}
use Rattle.type_rows.proofs.method.Method.refuses_reached.Goals as goal

pub returns-then-not-stays_inside : goal.returns-then-not-stays_inside
returns-then-not-stays_inside c =
    let m = c.args.self.now in
    let P = program m in
    let M = owned m in
    let f = c.args.frame in
    let g = c.step.new.frame in
    let st = frame_types g in
    let lt = frame_cells m.registers g in
    let es = leads c.in-Some.to c.args.site.pc st lt in
    let n = length M.method.code in
    let rest = handlers_pass P c.args.site.instr c.args.site.pc (length (frame_types f)) M.method.height n M.method.handlers in
    let inside = sym (ap (λ (k : ℕ). all_inside k es) c.count.ensures) ∙ sym (c.stays_inside.ensures st lt) ∙ c.if-not-stays_inside.true in
    let told = refused_told P M c.args.site.instr c.args.site.pc (frame_types f) (frame_cells m.registers f) es c.in-Some.ensures in
    ap not c.if-not-stays_inside.true ∙ sym (told ∙ ap (λ (b : Bool). not (b && rest)) inside)

pub returns-else-not-stays_inside : goal.returns-else-not-stays_inside
returns-else-not-stays_inside c =
    let m = c.args.self.now in
    let P = program m in
    let M = owned m in
    let f = c.args.frame in
    let g = c.step.new.frame in
    let st = frame_types g in
    let lt = frame_cells m.registers g in
    let es = leads c.in-Some.to c.args.site.pc st lt in
    let n = length M.method.code in
    let rest = handlers_pass P c.args.site.instr c.args.site.pc (length (frame_types f)) M.method.height n M.method.handlers in
    let inside = sym (ap (λ (k : ℕ). all_inside k es) c.count.ensures) ∙ sym (c.stays_inside.ensures st lt) ∙ c.if-not-stays_inside.false in
    let told = refused_told P M c.args.site.instr c.args.site.pc (frame_types f) (frame_cells m.registers f) es c.in-Some.ensures in
    let all = ap (λ (h : ℕ). handlers_pass P c.args.site.instr c.args.site.pc h M.method.height n M.method.handlers) c.height.ensures in
    ap not (c.all_pass.ensures ∙ all) ∙ sym (told ∙ ap (λ (b : Bool). not (b && rest)) inside)
