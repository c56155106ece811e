-- The record says what the method has, and the rules keep it within the limits.
use Rattle.std.proofs.Common.{◌≡◌, ◌+◌, sym, ap, arith}
use Rattle.jinja.specs.Program.{MethodDecl}
use Rattle.jinja.specs.Rows as rows
use Rattle.jinja.specs.Types.{type_number}
use Rattle.tables.specs.Views.{program_of}
use Rattle.type_rows.specs.Methods.{the_method}
use Rattle.type_rows.proofs.Limits.{method_limited, record_method, record_at, record_there, record_params}
use Rattle.type_rows.proofs.make.of_record.Goals as goal

pub invariant_of-result : goal.invariant_of-result
invariant_of-result c =
    let t = c.args.tables.now in
    let k = c.args.number in
    let r = c.args.method in
    let whole = c.requires.whole in
    let s = c.requires.stands in
    let P = program_of t in
    let limits = method_limited P c.requires.kept k (record_at t k r whole s) in
    let is = record_method t k r whole s in
    let high : r.height ≡ (the_method P k).method.height = sym (ap (λ (m : MethodDecl). m.height) is) in
    let extras : r.extras ≡ (the_method P k).method.extras = sym (ap (λ (m : MethodDecl). m.extras) is) in
    let params = record_params t k r whole s in
    let wide : 1 + r.params.count + r.extras ≡ rows.registers (the_method P k) = omega arith in
    record {
      kept = c.requires.kept;
      whole = whole;
      there = record_there t k r whole s;
      short = limits.code;
      high = high;
      low = omega (arith, limits.height);
      wide = wide;
      narrow = omega (arith, limits.registers);
      gives = sym (ap (λ (m : MethodDecl). type_number m.result) is);
    }
