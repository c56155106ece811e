-- A class's own fields are a part of the table.
use Rattle.std.proofs.Common.{length, sym, ap, ◌∙◌, arith}
use Rattle.std.proofs.lemmas.List.{length-take}
use Rattle.tables.proofs.Rows.{no_own_fields, own_fields_at}
use Rattle.tables.proofs.tables.Tables.own_fields.Goals as goal

pub returns-in-Some : goal.returns-in-Some
returns-in-Some c =
    record {
      fields = c.all_of.ensures ∙ rw c.as_slice.ensures.items (sym (own_fields_at c.args.self.now c.args.c c.in-Some.class (sym c.in-Some.ensures.record)));
      few = omega (arith, simp length-take at (ap length c.all_of.ensures), c.in-Some.ensures.fields, ap length c.as_slice.ensures.items, c.as_slice.ensures.within);
    }

pub returns-in-None : goal.returns-in-None
returns-in-None c = record { fields = sym (no_own_fields c.args.self.now c.args.c (sym c.in-None.ensures.record)); few = omega arith }
