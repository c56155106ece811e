-- The field that the search finds among those of the class.
use Rattle.std.proofs.Common.{◌≡◌, length, Some, None, ap, ◌∙◌, arith}
use Rattle.jinja.specs.declared.program.Field.{Field}
use Rattle.jinja.specs.Lookups.{position, own_fields}
use Rattle.tables.specs.Views.{program_of}
use Rattle.tables.proofs.Rows.{no_own_field, own_field_at}
use Rattle.tables.proofs.tables.Tables.declared.Goals as goal

pub returns-in_err-i : goal.returns-in_err-i
returns-in_err-i c =
    let e : None ≡ position (λ (x : Field). x.name) c.args.name (own_fields (program_of c.args.self.now) c.args.c) =
    c.in_err-i.ensures.place ∙ ap (position (λ (x : Field). x.name) c.args.name) c.own_fields-own.ensures.fields in
    rw c.from_residual.ensures (record { field = no_own_field (program_of c.args.self.now) c.args.c c.args.name e; few = tt })

pub returns : goal.returns
returns c =
    let P = program_of c.args.self.now in
    let own = c.own_fields-own.ensures.fields in
    let e : Some c.in_ok-i.i ≡ position (λ (x : Field). x.name) c.args.name (own_fields P c.args.c) =
    c.in_ok-i.ensures.place ∙ ap (position (λ (x : Field). x.name) c.args.name) own in
    let l = ap length own in
    record {
      field = rw own (own_field_at P c.args.c c.args.name c.in_ok-i.i _ e (omega (arith, c.in_ok-i.ensures.within)));
      few = omega (arith, c.in_ok-i.ensures.within, c.own_fields-own.ensures.few);
    }
