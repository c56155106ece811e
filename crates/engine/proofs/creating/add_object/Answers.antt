use Rattle.std.proofs.Common.{replicate, sym, ◌∙◌, arith}
use Rattle.std.proofs.lemmas.List.{length-map, length-take-le}
use Rattle.heap.specs.declared.value.Value.TheVariants.{Unit as unit}
use Rattle.jinja.specs.declared.program.Field.{Field}
use Rattle.jinja.specs.Lookups.{fields_of}
use Rattle.jinja.specs.Values.{start_value}
use Rattle.tables.specs.Views.{program_of}
use Rattle.engine.proofs.NewObjects.{created_long, created_is}
use Rattle.engine.proofs.creating.add_object.Goals as goal

pub returns-then-n-gt-ROW_LIMIT : goal.returns-then-n-gt-ROW_LIMIT
returns-then-n-gt-ROW_LIMIT g c = created_long (program_of c.args.tables.now) (g.H.Heap.meaning c.args.heap.now) c.args.c (omega arith)

pub start_row-requires : goal.start_row-requires
start_row-requires g c =
    length-take-le c.row_len-n.result (replicate 8 unit) (omega arith) ∙ c.row_len-n.ensures.len ∙ sym (length-map (fields_of (program_of c.args.tables.now) c.args.c) (λ (f : Field). start_value f.ty))

pub returns : goal.returns
returns g c = rw c.start_row.ensures at c.append.ensures ∙ created_is (program_of c.args.tables.now) (g.H.Heap.meaning c.args.heap.now) c.args.c
