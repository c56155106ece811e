-- One more of the same object, or a refusal.
use Rattle.std.proofs.Common.{◌≡◌, ℕ, ◌+◌, ◌≤◌, Bool, true, false, cond, List, [], ◌∷◌, length, is_ok, Ok, Err, Result, sym, refl, ap, ◌∙◌, subst, arith}
use lib.ListN.{length-replicate, replicate-append-replicate}
use Rattle.std.proofs.lemmas.Bool.{cond-true, cond-false}
use Rattle.heap.specs.declared.value.Value.{Value}
use Rattle.heap.specs.declared.charge.ChargeLine.{ChargeLine}
use Rattle.heap.specs.declared.fault.HeapFault.{HeapFault}
use Rattle.heap.specs.declared.fault.HeapFault.TheVariants.{Full}
use Rattle.heap.specs.Meaning.{Object, Meaning, admits}
use Rattle.heap.specs.Calls.{add_answer, with_object, after_add}
use Rattle.heap.specs.Lawful.{word_limit}
use Rattle.heap.specs.Totals.{Call, add, after_call, WithinTotals, KeepsLines}
use Rattle.heap_demo.specs.Filled.{holding}

-- what is promised for any calls is promised after one of them
keeps_on : (m : Meaning) (k : Call) → KeepsLines m → KeepsLines (after_call k m)
keeps_on m k w =
    record {
      lines = λ ks. w.lines (k ∷ ks) ∙ sym (w.lines (k ∷ []));
      within = λ ks. w.within (k ∷ ks);
      few = λ ks. w.few (k ∷ ks);
    }

ok_if_admitted : (m : Meaning) (n : ℕ) → is_ok (add_answer m n) ≡ admits m n
ok_if_admitted m n =
    elim (admits m n) as (λ b. is_ok (cond b (Ok (length m.objects)) (Err Full)) ≡ b) [ true ↦ refl | false ↦ refl ]

holding_few : (m : Meaning) (ls : List ChargeLine) (n c : ℕ) (vs : List Value) → m ≡ holding ls n c vs → KeepsLines m → n ≤ word_limit
holding_few m ls n c vs h w =
    let o : Object = record { class = c; row = vs } in
    let k = w.few [] in
    let e = ap (λ x. length x.objects) h ∙ length-replicate n o in
    omega arith

-- an add of the object, from m to after
module _ (m after : Meaning) (c : ℕ) (vs : List Value) (r : Result ℕ HeapFault) (a : r ≡ add_answer m (length vs)) (e : after ≡ after_add m c vs) (w : KeepsLines m) where
  admitted : (b : Bool) → is_ok r ≡ b → admits m (length vs) ≡ b
  admitted b o = sym (ok_if_admitted m (length vs)) ∙ ap is_ok (sym a) ∙ o

  keeps : KeepsLines after
  keeps = subst KeepsLines (sym e) (keeps_on m (add c vs) w)

  pub taken : (ls : List ChargeLine) (n : ℕ) → is_ok r ≡ true → m ≡ holding ls n c vs → (after ≡ holding ls (n + 1) c vs) × KeepsLines after × (n + 1 ≤ word_limit)
  taken ls n o h =
      let p : after ≡ holding ls (n + 1) c vs = e
      ∙ cond-true (admits m (length vs)) (with_object m c vs) m (admitted true o)
      ∙ ap (λ x. with_object x c vs) h
      ∙ ap (λ os. record { objects = os; lines = ls }) (replicate-append-replicate n 1 (record { class = c; row = vs })) in
      (p, keeps, holding_few after ls (n + 1) c vs p keeps)

  pub refused : (ls : List ChargeLine) (n : ℕ) → is_ok r ≡ false → m ≡ holding ls n c vs → (after ≡ holding ls n c vs) × (admits after (length vs) ≡ false) × WithinTotals after
  refused ls n o h =
      let f = admitted false o in
      let p : after ≡ m = e ∙ cond-false (admits m (length vs)) (with_object m c vs) m f in
      (p ∙ h, ap (λ x. admits x (length vs)) p ∙ f, keeps.within [])
