use Rattle.std.proofs.Common.{◌≡◌, [], ◌∷◌, length, Some, sym, refl, ap, ◌∙◌, arith}
use Rattle.std.proofs.lemmas.Bool.{eq-eqb, ne_eqb}
use Rattle.jinja.specs.Lookups.{Owned, method_at}
use Rattle.jinja.proofs.Options.{some_inj}
use Rattle.set.specs.Sets.{set_program}
use Rattle.tables.specs.declared.tables.Tables.{Tables}
use Rattle.tables.specs.Views.{params_of, program_of}
use Rattle.tables.proofs.Spans.{length_part}
use Rattle.engine.specs.Calling.{fresh}
use Rattle.engine.proofs.Handlers.{found_method}
use Rattle.engine.proofs.Records.{record_params}
use Rattle.engine.proofs.start.open.Goals as goal

pub returns-then-args-method : goal.returns-then-args-method
returns-then-args-method c =
    let t = c.of-program.result.tables.now in
    let k = c.args.k in
    let s = c.in_ok-method.ensures.spans in
    let w = found_method (method_at (program_of t) k) (c.method.ensures.numbered c.of-program.result.whole ∙ s.method) in
    let met : method_at (set_program c.args.set.now) k ≡ Some w.0 = ap (λ (u : Tables). method_at (program_of u) k) (sym c.of-program.ensures) ∙ w.1 in
    let count = ap length (record_params t s w.0 w.2) ∙ length_part c.in_ok-method.method.params (params_of t) s.params.within in
    record {
      told = rw (met, ne_eqb (length c.args.args.now) (length w.0.method.params) (λ e. c.if-args-method.true (e ∙ count)));
      opened = λ N e l. absurd (c.if-args-method.true (l ∙ ap (λ (M : Owned). length M.method.params) (some_inj (sym e ∙ met)) ∙ count));
      kept = λ _. refl;
    }

pub open_first-requires : goal.open_first-requires
open_first-requires c =
    let t = c.of-program.result.tables.now in
    let k = c.args.k in
    let s = c.in_ok-method.ensures.spans in
    let w = found_method (method_at (program_of t) k) (c.method.ensures.numbered c.of-program.result.whole ∙ s.method) in
    let count = ap length (record_params t s w.0 w.2) ∙ length_part c.in_ok-method.method.params (params_of t) s.params.within in
    let extras = ap (λ d. d.extras) w.2 in
    let few = c.of-program.result.fitting.registers k w.0 w.1 in
    omega (arith, count, extras, few)

pub returns : goal.returns
returns c =
    let t = c.of-program.result.tables.now in
    let k = c.args.k in
    let s = c.in_ok-method.ensures.spans in
    let w = found_method (method_at (program_of t) k) (c.method.ensures.numbered c.of-program.result.whole ∙ s.method) in
    let met : method_at (set_program c.args.set.now) k ≡ Some w.0 = ap (λ (u : Tables). method_at (program_of u) k) (sym c.of-program.ensures) ∙ w.1 in
    let count = ap length (record_params t s w.0 w.2) ∙ length_part c.in_ok-method.method.params (params_of t) s.params.within in
    record {
      told = rw (met, eq-eqb (length c.args.args.now) (length w.0.method.params) (c.if-args-method.false ∙ sym count));
      opened = λ N e l.
          c.open_first.ensures
          ∙ ap (λ x. fresh k c.args.this c.args.args.now x ∷ []) (sym (ap (λ d. d.extras) w.2) ∙ ap (λ (M : Owned). M.method.extras) (some_inj (sym met ∙ e)));
      kept = λ z. cc;
    }
