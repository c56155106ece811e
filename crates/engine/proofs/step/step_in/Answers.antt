use Rattle.std.proofs.Common.{◌≤◌, length, sym, ap, ◌∙◌, arith}
use Rattle.std.specs.List.{slice_get}
use Rattle.std.proofs.lemmas.Option.{slice_get-get_or}
use Rattle.jinja.specs.declared.instr.Instr.TheVariants.{Load}
use Rattle.jinja.specs.Lookups.{method_at}
use Rattle.tables.specs.Views.{instrs_of, params_of, program_of}
use Rattle.tables.proofs.Spans.{length_part, few_instrs}
use Rattle.engine.specs.Limits.{cell_limit}
use Rattle.engine.specs.Views.{frames_of}
use Rattle.engine.specs.Stepping.{top_pc}
use Rattle.engine.proofs.Tops.{lowest_length}
use Rattle.engine.proofs.Handlers.{found_method}
use Rattle.engine.proofs.Records.{record_params, record_code}
use Rattle.engine.proofs.NextStep.{next_past, next_is}
use Rattle.engine.proofs.step.step_in.Goals as goal

pub returns-then-pc-code : goal.returns-then-pc-code
returns-then-pc-code g c =
    let t = c.args.program.tables.now in
    let P = program_of t in
    let fs = frames_of c.args.frames.now in
    let m = c.in_ok-method.ensures.spans in
    let w = found_method (method_at P c.method-k.result) (c.method.ensures.numbered c.args.program.whole ∙ m.method) in
    let code = ap length (record_code t m w.0 w.2 ∙ sym (c.code_of-code.ensures ∙ sym m.code.items)) in
    rw (next_past P (g.H.Heap.meaning c.args.heap.now) fs (ap (method_at P) (sym c.method-k.ensures) ∙ w.1) (omega (arith, code)))

pub exec-requires : goal.exec-requires
exec-requires g c =
    let t = c.args.program.tables.now in
    let P = program_of t in
    let k = c.method-k.result in
    let m = c.in_ok-method.ensures.spans in
    let w = found_method (method_at P k) (c.method.ensures.numbered c.args.program.whole ∙ m.method) in
    let within = m.code.within in
    let code = ap length (c.code_of-code.ensures ∙ sym m.code.items) ∙ length_part c.in_ok-method.method.code (instrs_of t) within in
    let all = few_instrs t in
    let height = ap (λ d. d.height) w.2 in
    let fit : w.0.method.height ≤ cell_limit = c.args.program.fitting.heights k w.0 w.1 in
    record {
      ready = record { some = omega arith; inside = omega (arith, within, code, all) };
      low = omega (arith, height, fit);
    }

pub returns : goal.returns
returns g c =
    let t = c.args.program.tables.now in
    let P = program_of t in
    let s = c.args.frames.now in
    let fs = frames_of s in
    let n = lowest_length s.frames s.count (omega arith) in
    let m = c.in_ok-method.ensures.spans in
    let w = found_method (method_at P c.method-k.result) (c.method.ensures.numbered c.args.program.whole ∙ m.method) in
    let is = c.code_of-code.result.now in
    let code = record_code t m w.0 w.2 ∙ sym (c.code_of-code.ensures ∙ sym m.code.items) in
    let at = ap (λ l. slice_get l (top_pc fs)) code ∙ ap (slice_get is) (sym c.pc-pc.ensures) ∙ slice_get-get_or is c.pc-pc.result (Load 0) (omega arith) in
    rw (next_is P (g.H.Heap.meaning c.args.heap.now) fs (omega (arith, n)) (ap (method_at P) (sym c.method-k.ensures) ∙ w.1) at)
    (c.exec.ensures w.0 (record {
      height = ap (λ d. d.height) w.2;
      result = ap (λ d. d.result) w.2;
      params = ap length (record_params t m w.0 w.2) ∙ length_part c.in_ok-method.method.params (params_of t) m.params.within;
      code = ap length code;
    }))
