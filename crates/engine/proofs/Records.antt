-- What the record of a method says of the method. Assumes nothing.
use Rattle.std.proofs.Common.{◌≡◌, ℕ, [], sym, ap, ◌∙◌}
use Rattle.jinja.specs.Classes.{maybe}
use Rattle.jinja.specs.Lookups.{Owned}
use Rattle.tables.specs.declared.records.MethodRec.{MethodRec}
use Rattle.tables.specs.declared.tables.Tables.{Tables}
use Rattle.tables.specs.Methods.{Stands}
use Rattle.tables.specs.Spans.{part}
use Rattle.tables.specs.Views.{handlers_of, instrs_of, method_view, params_of}

module _ (t : Tables) {k : ℕ} {m : MethodRec} (s : Stands t k m) (N : Owned) (e : N.method ≡ method_view (params_of t) (instrs_of t) (handlers_of t) m) where
  pub record_params : N.method.params ≡ part m.params (params_of t)
  record_params = ap (λ d. d.params) e ∙ sym (s.params.items ∙ ap (λ o. maybe o [] (λ d. d.params)) s.method)

  pub record_code : N.method.code ≡ part m.code (instrs_of t)
  record_code = ap (λ d. d.code) e ∙ sym (s.code.items ∙ ap (λ o. maybe o [] (λ d. d.code)) s.method)
