-- Two reached rows of one height, joined in place: what the row shows then, and whether it means something else. Assumes nothing.
use Rattle.std.proofs.Common.{◌≡◌, ℕ, ◌+◌, ◌-◌, ◌≤◌, Bool, true, false, List, length, get_or, take, drop, set, MatchBool, sym, ◌∙◌, subst, arith, length-set}
use borrow.Rule.Slice.PartMut.{put_mid}
use Rattle.std.proofs.lemmas.List.{length-take-le, length-drop}
use Rattle.jinja.specs.Program.{Program}
use Rattle.jinja.specs.Classes.{table}
use Rattle.jinja.specs.Lookups.{Owned}
use Rattle.jinja.specs.Rows.{registers}
use Rattle.jinja.specs.WellFormed.{WellFormed}
use Rattle.format.proofs.WellFormed.{kept_is_well_formed}
use Rattle.tables.proofs.Spans.{few_classes}
use Rattle.tables.proofs.Programs.{length_program}
use Rattle.type_rows.specs.declared.method.Method.{Method}
use Rattle.type_rows.specs.Joining.{join_numbers, has_absent, SameNumbers}
use Rattle.type_rows.specs.Merging.{merge}
use Rattle.type_rows.specs.Numbers.{Small, Shows, read_row}
use Rattle.type_rows.specs.RowSteps.{Reached}
use Rattle.type_rows.specs.Stepping.{program, owned}
use Rattle.type_rows.proofs.Cells.{small_set}
use Rattle.type_rows.proofs.Changed.{clash_differs, changed_told}
use Rattle.type_rows.proofs.JoinedAnyway.{set_first}
use Rattle.type_rows.proofs.JoinedInPlace.{put_long, both_long, small_put, joined_in_place, stack_told, registers_told}
use Rattle.type_rows.proofs.JoinedRows.{Joins, clash_means, row_means, join_shown}

-- the shown numbers of a reached row xs and of a row ys of its height, joined: js for the stack cells, ks for the registers
pub record InPlace (P : Program) (M : Owned) (n : ℕ) (xs ys js ks : List ℕ) : Type 0 where
  pub well_formed : WellFormed P
  pub few : length (table P) ≤ 32
  pub wide : n ≡ registers M
  pub narrow : n ≤ 16
  pub row : Shows P M xs
  pub other : Shows P M ys
  pub reached : Reached xs
  pub same : get_or ys 0 0 ≡ get_or xs 0 0
  pub as_high : length js ≡ get_or xs 0 0 - 1
  pub as_wide : length ks ≡ n
  pub small_stack : Small js
  pub small_registers : Small ks
  pub stack : js ≡ join_numbers P (take (get_or xs 0 0 - 1) (drop 1 xs)) (take (get_or xs 0 0 - 1) (drop 1 ys))
  pub others : ks ≡ join_numbers P (take n (drop 17 (put_mid 1 (get_or xs 0 0 - 1) xs js))) (take n (drop 17 ys))

module _ {P : Program} {M : Owned} {n : ℕ} {xs ys js ks : List ℕ} (f : InPlace P M n xs ys js ks) where
  abbrev h : ℕ
  h = get_or xs 0 0 - 1

  low : h ≤ 16
  low = let l = f.reached.low in omega arith

  abbrev zs : List ℕ
  zs = put_mid 17 n (put_mid 1 h xs js) ks

  long : length zs ≡ 33
  long = both_long h n xs js ks f.row.whole low f.narrow f.as_high f.as_wide

  small : Small zs
  small = small_put 17 n (put_mid 1 h xs js) ks (small_put 1 h xs js f.row.small f.small_stack) f.small_registers

  joins : Joins P h n xs ys zs
  joins = joined_in_place h n xs js ks f.row.whole low f.narrow f.as_high f.as_wide P ys f.stack f.others

  pub still_means : has_absent (take h (drop 1 zs)) ≡ false → read_row (registers M) zs ≡ merge P (read_row (registers M) xs) (read_row (registers M) ys)
  still_means e = row_means P xs ys zs f.row.whole f.other.whole f.same f.reached.low n f.narrow joins f.well_formed f.few M f.wide f.reached.above f.row.in_use f.other.in_use e

  pub still_shown : has_absent (take h (drop 1 zs)) ≡ false → Shows P M zs
  still_shown e = join_shown f.well_formed M zs long small f.row.in_use f.other.in_use (still_means e)

  module _ (e : has_absent (take h (drop 1 zs)) ≡ true) where
    clash_first : get_or (set zs 0 18) 0 0 ≡ 18
    clash_first = set_first zs 18 long

    pub now_clash : read_row (registers M) (set zs 0 18) ≡ merge P (read_row (registers M) xs) (read_row (registers M) ys)
    now_clash = let z = clash_first in clash_means P xs ys zs f.row.whole f.other.whole f.same f.reached.low n f.narrow joins f.well_formed f.few M f.wide f.reached.above f.row.in_use f.other.in_use e (set zs 0 18) (omega arith)

    pub clash_shown : Shows P M (set zs 0 18)
    clash_shown = join_shown f.well_formed M (set zs 0 18) (length-set zs 0 18 ∙ long) (small_set zs 0 18 small (omega arith)) f.row.in_use f.other.in_use now_clash

    pub clash_other : read_row (registers M) (set zs 0 18) ≡ read_row (registers M) xs → ⊥
    clash_other = let z = clash_first in clash_differs (registers M) xs (set zs 0 18) (omega arith) f.reached.above f.reached.low

  -- whether the row means something else is whether its stack cells or its registers changed
  module _ (a : Bool) (s : MatchBool a (js ≡ take h (drop 1 xs) → ⊥) (js ≡ take h (drop 1 xs))) where
    told : (b : Bool) → MatchBool b (SameNumbers h n xs zs → ⊥) (SameNumbers h n xs zs) → MatchBool b (read_row (registers M) zs ≡ read_row (registers M) xs → ⊥) (read_row (registers M) zs ≡ read_row (registers M) xs)
    told b t = subst (λ (k : ℕ). MatchBool b (read_row k zs ≡ read_row k xs → ⊥) (read_row k zs ≡ read_row k xs)) f.wide (changed_told n xs zs f.narrow f.reached.above f.reached.low joins.first b t)

    pub stack_changed : a ≡ true → MatchBool a (read_row (registers M) zs ≡ read_row (registers M) xs → ⊥) (read_row (registers M) zs ≡ read_row (registers M) xs)
    stack_changed e = subst (λ (b : Bool). MatchBool b (read_row (registers M) zs ≡ read_row (registers M) xs → ⊥) (read_row (registers M) zs ≡ read_row (registers M) xs)) (sym e) (told true (stack_told h n xs js ks f.row.whole low f.narrow f.as_high f.as_wide a s e))

    pub registers_changed : a ≡ false → (b : Bool) → MatchBool b (ks ≡ take n (drop 17 (put_mid 1 h xs js)) → ⊥) (ks ≡ take n (drop 17 (put_mid 1 h xs js))) → MatchBool b (read_row (registers M) zs ≡ read_row (registers M) xs → ⊥) (read_row (registers M) zs ≡ read_row (registers M) xs)
    registers_changed e b t = told b (registers_told h n xs js ks f.row.whole low f.narrow f.as_high f.as_wide a s e b t)

-- the slices of a method's rows are joined
pub in_place : (m : Method) (xs ys js ks : List ℕ) → Shows (program m) (owned m) xs → Shows (program m) (owned m) ys → Reached xs → get_or ys 0 0 ≡ get_or xs 0 0 → length js ≡ length (take (get_or xs 0 0 - 1) (drop 1 xs)) → length ks ≡ length (take ((17 + m.registers) - 17) (drop 17 (put_mid 1 (get_or xs 0 0 - 1) xs js))) → Small js → Small ks → js ≡ join_numbers (program m) (take (get_or xs 0 0 - 1) (drop 1 xs)) (take (get_or xs 0 0 - 1) (drop 1 ys)) → ks ≡ join_numbers (program m) (take ((17 + m.registers) - 17) (drop 17 (put_mid 1 (get_or xs 0 0 - 1) xs js))) (take ((17 + m.registers) - 17) (drop 17 ys)) → InPlace (program m) (owned m) ((17 + m.registers) - 17) xs ys js ks
in_place m xs ys js ks x y r same p q sj sk ej ek =
    let h = get_or xs 0 0 - 1 in
    let n = (17 + m.registers) - 17 in
    let t = m.tables.now in
    let z : n ≡ m.registers = omega arith in
    let whole = x.whole in
    let low = r.low in
    let narrow = m.narrow in
    let a = length-drop 1 xs in
    let long : length js ≡ h = p ∙ length-take-le h (drop 1 xs) (omega arith) in
    let l = put_long 1 h xs js (omega arith) long in
    let b = length-drop 17 (put_mid 1 h xs js) in
    record {
      well_formed = kept_is_well_formed (program m) m.kept;
      few = omega (arith, length_program t, few_classes t);
      wide = z ∙ m.wide;
      narrow = omega arith;
      row = x;
      other = y;
      reached = r;
      same = same;
      as_high = long;
      as_wide = q ∙ length-take-le n (drop 17 (put_mid 1 h xs js)) (omega arith);
      small_stack = sj;
      small_registers = sk;
      stack = ej;
      others = ek;
    }
