-- Cell by cell.
use Rattle.std.proofs.Common.{sym, refl, ◌∙◌, arith}
use Rattle.std.proofs.lemmas.List.{set-get_or}
use Rattle.tables.specs.Views.{program_of}
use Rattle.type_rows.proofs.JoinedNumbers.{none_joined, other_joined, same_joined, all_joined}
use Rattle.type_rows.proofs.join.join_numbers.Goals as goal
use Rattle.type_rows.proofs.join.join_numbers.Goals.{then-joined-cell, else-joined-cell}

pub loop-k-init : goal.loop-k-init
loop-k-init c = record { so_far = sym (none_joined (program_of c.args.tables.now) c.args.cells.now c.args.others.now); small = c.requires.left; told = refl }

pub join_number-joined-requires : goal.join_number-joined-requires
join_number-joined-requires c = record { left = c.loop-k.invariant.small c.loop-k.k; right = c.requires.right c.loop-k.k }

pub loop-k-preserved : goal.loop-k-preserved
loop-k-preserved c =
    let l = c.loop-k in
    let j = c.join_number-joined in
    let P = program_of c.args.tables.now in
    elim c.if-joined-cell.branch [
      | then-joined-cell w ↦ other_joined P c.args.cells.now c.args.others.now l.cells l.k l.changed j.result l.invariant c.requires.same c.loop-k-test.true l.auto.cells j.ensures.joins j.ensures.small _ _ w.if-joined-cell.true w.cells-is w.changed-is
      | else-joined-cell w ↦ same_joined P c.args.cells.now c.args.others.now l.cells l.k l.changed j.result l.invariant c.requires.same c.loop-k-test.true l.auto.cells j.ensures.joins j.ensures.small _ _ w.if-joined-cell.false (w.cells-is ∙ set-get_or l.cells l.k 0) w.changed-is
    ]

pub returns : goal.returns
returns c =
    let l = c.loop-k in
    record {
      joins = l.invariant.so_far ∙ all_joined (program_of c.args.tables.now) c.args.cells.now c.args.others.now l.k c.requires.same (omega (arith, c.loop-k-test.false));
      small = l.invariant.small;
      changed = l.invariant.told;
    }
