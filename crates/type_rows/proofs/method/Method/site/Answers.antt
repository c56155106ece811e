-- The code of the tables is that of the program.
use Rattle.std.proofs.Common.{◌≡◌, List, None, sym, refl, ap, ◌∙◌, rules}
use Rattle.std.specs.List.{slice_get}
use Rattle.jinja.specs.declared.instr.Instr.{Instr}
use Rattle.tables.proofs.Owners.{methods_numbered}
use Rattle.type_rows.specs.Stepping.{owned}
use Rattle.type_rows.proofs.Refused.{code_unowned}
use Rattle.type_rows.proofs.method.Method.site.Goals as goal

pub returns-in_err-instr : goal.returns-in_err-instr
returns-in_err-instr c =
    let m = c.args.self.now in
    let code = code_unowned _ _ (methods_numbered m.tables.now m.number m.whole) in
    let at : slice_get (owned m).method.code c.args.pc ≡ None = sym (ap (λ (l : List Instr). slice_get l c.args.pc) code) ∙ sym c.instr.ensures ∙ c.in_err-instr.was in
    search (rules, at)

pub returns : goal.returns
returns c =
    let m = c.args.self.now in
    let code = code_unowned _ _ (methods_numbered m.tables.now m.number m.whole) in
    (sym (ap (λ (l : List Instr). slice_get l c.args.pc) code) ∙ sym c.instr.ensures ∙ c.in_ok-instr.was, refl)
