use Rattle.std.proofs.Common.{◌≡◌, Bool, true, false, Some, refl, ◌∙◌}
use Rattle.std.specs.Bool.{then_some}
use Rattle.jinja.specs.Options.{◌>>◌}
use Rattle.jinja.specs.Classes.{at_or_below}
use Rattle.tables.specs.Views.{program_of}
use Rattle.engine.proofs.HeapAnswers.{field_lost, field_found}
use Rattle.engine.proofs.fields.field_value.Goals as goal

chosen : {X : Type 0} (b : Bool) (x : X) → then_some b x ≡ (b >> Some x)
chosen true x = refl
chosen false x = refl

pub returns-in_err-d : goal.returns-in_err-d
returns-in_err-d g c = c.from_residual.ensures ∙ field_lost (program_of c.args.tables.now) (g.H.Heap.meaning c.args.heap.now) c.args.field c.args.c c.args.a c.in_err-d.ensures

pub returns-then-not-at_or_below : goal.returns-then-not-at_or_below
returns-then-not-at_or_below g c =
    let P = program_of c.args.tables.now in
    let found = field_found P (g.H.Heap.meaning c.args.heap.now) c.args.field c.args.c c.args.a c.in_ok-d.ensures in
    let below : at_or_below P c.in_ok-d.d c.args.c ≡ false = cc in
    rw (found, below)

pub returns : goal.returns
returns g c =
    let P = program_of c.args.tables.now in
    let h = g.H.Heap.meaning c.args.heap.now in
    let found = field_found P h c.args.field c.args.c c.args.a c.in_ok-d.ensures in
    let below : at_or_below P c.in_ok-d.d c.args.c ≡ true = cc in
    rw (found, below, ← c.in_ok-v.ensures) (c.then_some.ensures ∙ rw (← c.fits.ensures) (chosen c.fits.result c.in_ok-v.v))
