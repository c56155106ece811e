-- The record of a class, and what it says of the program.
use Rattle.std.proofs.Common.{sym, ap, ◌∙◌, arith}
use Rattle.jinja.specs.Classes.{maybe}
use Rattle.tables.proofs.Programs.{superclass_at, record_built_in, record_own}
use Rattle.tables.proofs.Numbering.{record_methods, record_fields}
use Rattle.tables.proofs.tables.Tables.class.Goals as goal

pub returns-then-c-lt-BUILT_IN-clause-superclass : goal.returns-then-c-lt-BUILT_IN-clause-superclass
returns-then-c-lt-BUILT_IN-clause-superclass c =
    superclass_at c.args.self.now c.args.c ∙ ap (λ r. maybe r 0 (λ d. d.superclass)) (record_built_in c.args.self.now c.args.c (omega (arith, c.if-c-lt-BUILT_IN.true)))

pub returns : goal.returns
returns c =
    let t = c.args.self.now in
    let e = record_own t c.args.c (omega (arith, c.if-c-lt-BUILT_IN.false)) ∙ sym c.get.ensures in
    record {
      «record» = sym e;
      superclass = superclass_at t c.args.c ∙ ap (λ r. maybe r 0 (λ d. d.superclass)) e;
      methods = record_methods t c.args.c c.get.result e;
      fields = record_fields t c.args.c c.get.result e;
    }
