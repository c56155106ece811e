-- Calls keep the lines, and each line's use within its total.
use Rattle.std.proofs.Common.{◌≡◌, ℕ, ◌+◌, ◌<◌, ◌≤◌, true, ltb, leb, List, [], ◌∷◌, ◌++◌, length, sym, refl, ap, ◌∙◌, subst, arith, length-set}
use Rattle.std.specs.List.{AllByRecursion}
use Rattle.std.proofs.ByRecursion.{All-weaker}
use Rattle.std.proofs.lemmas.List.Sums.{sum_by-cons, sum_by_push, sum_by-set}
use Rattle.std.proofs.lemmas.Bool.{and_parts, leb-true, ltb-true, cond_both}
use Rattle.heap.specs.declared.value.Value.{Value}
use Rattle.heap.specs.declared.charge.ChargeLine.{ChargeLine}
use Rattle.heap.specs.Meaning.{Object, Meaning, cost, used, has_room, row_limit, admits}
use Rattle.heap.specs.Calls.{no_object, object_at, has_object, has_field, with_object, with_field, with_value, vacant, after_add, after_write}
use Rattle.heap.specs.Lawful.{Charged, here, below, LawfulLines, SmallLine, word_limit}
use Rattle.heap.specs.Totals.{WithinTotals, Call, add, empty, write, after_call, after_calls, KeepsLines}

pub within_vacant : (ls : List ChargeLine) → WithinTotals (vacant ls)
within_vacant [] = tt
within_vacant (l ∷ ls) = (omega arith, within_vacant ls)

within_room : (os : List Object) (o : Object) (ls : List ChargeLine) → has_room ls os (length o.row) ≡ true → AllByRecursion (λ l. used l (os ++ o ∷ []) ≤ l.total) ls
within_room os o [] e = tt
within_room os o (l ∷ ls) e =
    let n = length o.row in
    let p = and_parts (leb (used l os + cost l n) l.total) (has_room ls os n) e in
    let q = leb-true (used l os + cost l n) l.total p.0 in
    let s = sum_by_push (λ x. cost l (length x.row)) os o in
    (omega arith, within_room os o ls p.1)

pub within_add : (m : Meaning) (c : ℕ) (vs : List Value) → WithinTotals m → WithinTotals (after_add m c vs)
within_add m c vs w =
    cond_both (admits m (length vs)) (with_object m c vs) m WithinTotals
    (λ e. within_room m.objects (record { class = c; row = vs }) m.lines (and_parts (leb (length vs) row_limit) (has_room m.lines m.objects (length vs)) e).1)
    (λ e. w)

-- an object's cost goes by its row's length, which a write keeps
used_put : (m : Meaning) (a i : ℕ) (v : Value) → a < length m.objects → (l : ChargeLine) → used l (with_value m a i v).objects ≡ used l m.objects
used_put m a i v k l =
    let o = object_at m a in
    let s = sum_by-set (λ x. cost l (length x.row)) m.objects a (with_field o i v) no_object k in
    let n = ap (cost l) (length-set o.row i v) in
    omega arith

pub within_write : (m : Meaning) (a i : ℕ) (v : Value) → WithinTotals m → WithinTotals (after_write m a i v)
within_write m a i v w =
    cond_both (has_field m a i) (with_value m a i v) m WithinTotals
    (λ e.
    let k = ltb-true a (length m.objects) (and_parts (has_object m a) (ltb i (length (object_at m a).row)) e).0 in
    All-weaker (λ l. used l m.objects ≤ l.total) (λ l. used l (with_value m a i v).objects ≤ l.total) (λ l q. let u = used_put m a i v k l in omega arith) m.lines w)
    (λ e. w)

within_call : (k : Call) (m : Meaning) → WithinTotals m → WithinTotals (after_call k m)
within_call (add c vs) m w = within_add m c vs w
within_call empty m w = within_vacant m.lines
within_call (write a i v) m w = within_write m a i v w

pub within_calls : (ks : List Call) (m : Meaning) → WithinTotals m → WithinTotals (after_calls ks m)
within_calls [] m w = w
within_calls (k ∷ ks) m w = within_calls ks (after_call k m) (within_call k m w)

lines_call : (k : Call) (m : Meaning) → (after_call k m).lines ≡ m.lines
lines_call (add c vs) m = cond_both (admits m (length vs)) (with_object m c vs) m (λ x. x.lines ≡ m.lines) (λ _. refl) (λ _. refl)
lines_call empty m = refl
lines_call (write a i v) m = cond_both (has_field m a i) (with_value m a i v) m (λ x. x.lines ≡ m.lines) (λ _. refl) (λ _. refl)

lines_calls : (ks : List Call) (m : Meaning) → (after_calls ks m).lines ≡ m.lines
lines_calls [] m = refl
lines_calls (k ∷ ks) m = lines_calls ks (after_call k m) ∙ lines_call k m

-- where a line charges each object, there are no more objects than the line's use
count_used : (l : ChargeLine) → 0 < l.fixed → (os : List Object) → length os ≤ used l os
count_used l f [] = omega arith
count_used l f (o ∷ os) =
    let s = sum_by-cons (λ x. cost l (length x.row)) o os in
    let r = count_used l f os in
    omega arith

pub few_within : {ls : List ChargeLine} → Charged ls → (os : List Object) → AllByRecursion SmallLine ls → AllByRecursion (λ l. used l os ≤ l.total) ls → length os ≤ word_limit
few_within (here {l = l} f) os s w = let u = count_used l f os in let t = s.0.total in omega arith
few_within (below c) os s w = few_within c os s.1 w.1

pub keeps_lines : (ls : List ChargeLine) → LawfulLines ls → KeepsLines (vacant ls)
keeps_lines ls f =
    let w : (ks : List Call) → WithinTotals (after_calls ks (vacant ls)) = λ ks. within_calls ks (vacant ls) (within_vacant ls) in
    record {
      lines = λ ks. lines_calls ks (vacant ls);
      within = w;
      few = λ ks.
          let m = after_calls ks (vacant ls) in
          let g = subst LawfulLines (sym (lines_calls ks (vacant ls))) f in
          few_within g.charged m.objects g.small (w ks);
    }
