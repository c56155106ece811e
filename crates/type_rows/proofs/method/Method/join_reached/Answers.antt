-- The stack cells below the height and the registers are joined; where a stack cell is absent then, paths clash.
use Rattle.std.proofs.Common.{◌≡◌, ◌+◌, ◌-◌, length, get_or, drop, sym, ◌∙◌, arith}
use borrow.Rule.Slice.PartMut.{put_mid}
use Rattle.std.proofs.lemmas.List.{length-take-le, length-drop}
use Rattle.type_rows.proofs.JoinedInPlace.{put_long, small_put}
use Rattle.type_rows.proofs.JoinedReached.{in_place, clash_shown, now_clash, clash_other, still_shown, still_means, stack_changed, registers_changed}
use Rattle.type_rows.proofs.RowParts.{small_take, small_drop}
use Rattle.type_rows.proofs.method.Method.join_reached.Goals as goal

pub join_numbers-stack-requires : goal.join_numbers-stack-requires
join_numbers-stack-requires c =
    let row = c.args.row.now in
    let other = c.args.other.now in
    let h = get_or row 0 0 - 1 in
    let a = length-drop 1 row in
    let b = length-drop 1 other in
    record {
      same = length-take-le h (drop 1 row) (omega (arith, c.requires.row.whole, c.requires.reached.low)) ∙ sym (length-take-le h (drop 1 other) (omega (arith, c.requires.other.whole, c.requires.reached.low)));
      left = small_take h (drop 1 row) (small_drop 1 row c.requires.row.small);
      right = small_take h (drop 1 other) (small_drop 1 other c.requires.other.small);
    }

pub join_numbers-registers-requires : goal.join_numbers-registers-requires
join_numbers-registers-requires c =
    let m = c.args.self.now in
    let row = c.args.row.now in
    let other = c.args.other.now in
    let h = get_or row 0 0 - 1 in
    let n = (17 + m.registers) - 17 in
    let js = c.join_numbers-stack.new.cells in
    let with = put_mid 1 h row js in
    let a = length-drop 1 row in
    let p : length js ≡ h = c.join_numbers-stack.auto.cells ∙ length-take-le h (drop 1 row) (omega (arith, c.requires.row.whole, c.requires.reached.low)) in
    let l = put_long 1 h row js (omega (arith, c.requires.row.whole, c.requires.reached.low)) p in
    let b = length-drop 17 with in
    let d = length-drop 17 other in
    record {
      same = length-take-le n (drop 17 with) (omega (arith, c.requires.row.whole, m.narrow)) ∙ sym (length-take-le n (drop 17 other) (omega (arith, c.requires.other.whole, m.narrow)));
      left = small_take n (drop 17 with) (small_drop 17 with (small_put 1 h row js c.requires.row.small c.join_numbers-stack.ensures.small));
      right = small_take n (drop 17 other) (small_drop 17 other c.requires.other.small);
    }

pub returns-then-any_absent : goal.returns-then-any_absent
returns-then-any_absent c =
    let f = in_place c.args.self.now c.args.row.now c.args.other.now c.join_numbers-stack.new.cells c.join_numbers-registers.new.cells c.requires.row c.requires.other c.requires.reached c.requires.same c.join_numbers-stack.auto.cells c.join_numbers-registers.auto.cells c.join_numbers-stack.ensures.small c.join_numbers-registers.ensures.small c.join_numbers-stack.ensures.joins c.join_numbers-registers.ensures.joins in
    let e = sym c.if-any_absent.ensures in
    record { shows = clash_shown f e; means = now_clash f e; changed = clash_other f e }

pub returns-then-stack : goal.returns-then-stack
returns-then-stack c =
    let f = in_place c.args.self.now c.args.row.now c.args.other.now c.join_numbers-stack.new.cells c.join_numbers-registers.new.cells c.requires.row c.requires.other c.requires.reached c.requires.same c.join_numbers-stack.auto.cells c.join_numbers-registers.auto.cells c.join_numbers-stack.ensures.small c.join_numbers-registers.ensures.small c.join_numbers-stack.ensures.joins c.join_numbers-registers.ensures.joins in
    let e = sym c.if-any_absent.ensures in
    let a = c.join_numbers-stack in
    record { shows = still_shown f e; means = still_means f e; changed = stack_changed f a.result a.ensures.changed c.if-stack.true }

pub returns-else-stack : goal.returns-else-stack
returns-else-stack c =
    let f = in_place c.args.self.now c.args.row.now c.args.other.now c.join_numbers-stack.new.cells c.join_numbers-registers.new.cells c.requires.row c.requires.other c.requires.reached c.requires.same c.join_numbers-stack.auto.cells c.join_numbers-registers.auto.cells c.join_numbers-stack.ensures.small c.join_numbers-registers.ensures.small c.join_numbers-stack.ensures.joins c.join_numbers-registers.ensures.joins in
    let e = sym c.if-any_absent.ensures in
    let a = c.join_numbers-stack in
    let b = c.join_numbers-registers in
    record { shows = still_shown f e; means = still_means f e; changed = registers_changed f a.result a.ensures.changed c.if-stack.false b.result b.ensures.changed }
