-- Invoke opens a frame that fits, and Return goes on in one that waits for it. Assumes nothing.
use Rattle.std.proofs.Common.{◌≡◌, ℕ, suc, ltb, List, [], ◌∷◌, length, Some, Option, sym, ap, ◌∙◌, subst, arith}
use Rattle.std.specs.List.{slice_get}
use Rattle.std.proofs.lemmas.Bool.{lt-ltb}
use Rattle.heap.specs.declared.value.Value.{Value}
use Rattle.heap.specs.declared.value.Value.TheVariants as value
use Rattle.heap.specs.Meaning.{Meaning}
use Rattle.jinja.specs.declared.ty.Ty.{Ty}
use Rattle.jinja.specs.declared.ty.Ty.TheVariants.{NullType, Class}
use Rattle.jinja.specs.declared.instr.Instr.TheVariants.{Invoke, Return}
use Rattle.jinja.specs.Program.{Program}
use Rattle.jinja.specs.Classes.{AtOrBelow}
use Rattle.jinja.specs.Lookups.{Owned, method_at, sees}
use Rattle.jinja.specs.WellFormed.{WellFormed}
use Rattle.jinja.specs.Rows.{Cell, Table, first_registers}
use Rattle.jinja.specs.Order.{nil, cons, Le}
use Rattle.jinja.specs.Rule.{operands, operands_of, CanPush, Edge, Rule, invoke, invoke_null, return}
use Rattle.jinja.specs.Handlers.{by_invoke}
use Rattle.jinja.specs.WellTyping.{Flows, FlowAll, no_more, flow, WellTypings}
use Rattle.jinja.specs.Values.{class_of}
use Rattle.jinja.specs.Step.{Frame, null_pointer_at, frame_limit, opened, Next, on_reference, raise, return_to, exec}
use Rattle.jinja.specs.Fits.{Fits, null_fits, address_fits, FitAll, fits_usable, ObjectsFit, Exceptions, FrameFits, Below, bottom, caller, stand}
use Rattle.jinja.proofs.Options.{some_inj}
use Rattle.jinja.proofs.Inheritance.{inheritance}
use Rattle.jinja.proofs.Existing.{overrides_takes, overrides_gives}
use Rattle.jinja.proofs.Pairwise.{pairs_length, shorter, pairs_taken, taken_length}
use Rattle.jinja.proofs.Values.{fit_up, all_up, params_fit, fits_tested, fit_all_tested}
use Rattle.jinja.proofs.Good.{Good, good_goes, good_returned, good_full, Now, bind, guard, either, deref, frame_at}
use Rattle.jinja.proofs.Instructions.{frame, Handled, arrives, raises}

-- the first frame of a method stands on a receiver whose class sees it, and on arguments that fit
pub opened_fits : {P : Program} {Φ : ℕ → Table} (w : WellFormed P) (typed : WellTypings P Φ) {h : Meaning} {a c k : ℕ} {N : Owned} {args : List Value} (m : ℕ) → class_of h a ≡ Some c → sees P c m ≡ Some k → method_at P k ≡ Some N → FitAll P h args N.method.params → (st : List Ty) × (lt : List Cell) × FrameFits P Φ h (opened N k a args) N st lt
opened_fits {P} {Φ} w typed {c = c} {k} {N} m is seen callee fits =
    let above = (inheritance P w).seen_above m seen in
    let owner : above.0 ≡ N = some_inj (sym above.1 ∙ callee) in
    let first : Flows P N (Φ k) 0 [] (first_registers N) = record { inside = w.some_code k callee; below = (typed k N callee).start } in
    frame_at _ callee first nil (cons (fits_usable (address_fits is (subst (λ (M : Owned). AtOrBelow P c M.owner) owner above.2))) (params_fit _ fits))

module _ {P : Program} {Φ : ℕ → Table} (w : WellFormed P) (typed : WellTypings P Φ) {h : Meaning} {b k pc : ℕ} {M : Owned} {regs : List Value} {rest : List Frame} where
  pub invoke_good : {stk : List Value} {st : List Ty} {lt : List Cell} {es : List Edge} (m n : ℕ) → slice_get M.method.code pc ≡ Some (Invoke m n) → Now P Φ h b (frame k pc stk regs) rest M st lt → Rule P M (Invoke m n) pc st lt es → FitAll P h stk st → Handled P Φ M k pc st lt (Invoke m n) → Good P Φ h b (exec P (Invoke m n) h M (frame k pc stk regs) rest)
  invoke_good {stk} m n is now (invoke_null e) s handled = let p = pairs_taken n s nil e in bind _ p.are (go _ p.receiver_is)
    where
      go : {v : Value} (f : ℕ → Option Next) → Fits P h v NullType → Good P Φ h b (on_reference v (raise P h null_pointer_at (frame k pc stk regs ∷ rest)) f)
      go f null_fits = raises w typed (Invoke m n) null_pointer_at now.exceptions.at_0 now handled (λ d l. by_invoke)
  invoke_good {stk} m n is now (invoke {N = N} e seen callee args room) s handled =
      let p = pairs_taken n s nil e in
      bind _ p.are (deref _ _ p.receiver_is
      (raises w typed (Invoke m n) null_pointer_at now.exceptions.at_0 now handled (λ d l. by_invoke))
      (λ a c is_a cl below.
      let o = (inheritance P w).methods m below seen callee in
      let N' = o.owned in
      let fits : FitAll P h p.args N'.method.params = all_up p.args_are (overrides_takes N'.method N.method o.related args) in
      let many : length N'.method.params ≡ n = let l = pairs_length fits in let l' = taken_length n stk [] p.are in omega arith in
      bind _ cl (bind _ o.seen (bind _ o.stands (guard (fit_all_tested w fits) (guard (lt-ltb _ _ (shorter _ p.left_are room)) (either (ltb (length (frame k pc stk regs ∷ rest)) frame_limit)
      (λ t. good_goes now.objects now.exceptions (stand (opened_fits w typed m cl o.seen o.stands fits).2
      (caller now.frame_fits (record { name = m; count = n; address = a; class = c; callee = N'; args = p.args; left = p.left; at_invoke = is; holds = rw is_a at p.are; class_is = cl; seen = o.seen; callee_is = o.stands; many = many }) now.below)))
      (λ t. good_full))))))))

addr_inv : {P : Program} {h : Meaning} {a d : ℕ} → Fits P h (value.Addr a) (Class d) → (c : ℕ) × (class_of h a ≡ Some c) × AtOrBelow P c d
addr_inv (address_fits e s) = (_, e, s)

not_null : {P : Program} {h : Meaning} {a : ℕ} → Fits P h (value.Addr a) NullType → ⊥
not_null f = elim f [ ]

-- where the caller goes on: its row takes what the callee gives
pub record Resumes (P : Program) (h : Meaning) (C : Owned) (rows : Table) (pc : ℕ) (M : Owned) (left : List Value) (lt : List Cell) : Type 0 where
  pub given : Ty
  pub st : List Ty
  pub gives : Le P M.method.result given
  pub flows : Flows P C rows (suc pc) (given ∷ st) lt
  pub fits : FitAll P h left st
  pub room : CanPush C st

module _ {P : Program} (w : WellFormed P) {h : Meaning} where
  resume : {C M : Owned} {rows : Table} {pc a c k : ℕ} {stk args left : List Value} {st : List Ty} {lt : List Cell} {es : List Edge} (m n : ℕ) → Rule P C (Invoke m n) pc st lt es → FlowAll P C rows es → FitAll P h stk st → operands_of n stk ≡ Some (operands args (value.Addr a) left) → class_of h a ≡ Some c → sees P c m ≡ Some k → method_at P k ≡ Some M → Resumes P h C rows pc M left lt
  resume {a = a} m n (invoke_null e) fl s q cl seen me =
      let p = pairs_taken n s nil e in let r = p.are in let x : p.receiver ≡ value.Addr a = cc in absurd (not_null (rw x at p.receiver_is))
  resume {M = M} {a = a} {c} {k} {left = left} m n (invoke {N = N} {rest = st'} e seen' callee le room) (flow fl no_more) s q cl seen me =
      let p = pairs_taken n s nil e in
      let r = p.are in
      let x : p.receiver ≡ value.Addr a = cc in
      let y : p.left ≡ left = cc in
      let v = addr_inv (rw x at p.receiver_is) in
      let o = (inheritance P w).methods m v.2 seen' callee in
      let sc : v.0 ≡ c = some_inj (sym v.1 ∙ cl) in
      let sk : o.number ≡ k = some_inj (sym o.seen ∙ (rw (← sc) at seen)) in
      let sN : o.owned ≡ M = some_inj (sym o.stands ∙ (rw (← sk) at me)) in
      record {
        given = N.method.result;
        st = st';
        gives = subst (λ (O : Owned). Le P O.method.result N.method.result) sN (overrides_gives o.owned.method N.method o.related (w.result_types _ callee));
        flows = fl;
        fits = subst (λ l. FitAll P h l st') y p.left_are;
        room = room;
      }

module _ {P : Program} {Φ : ℕ → Table} (w : WellFormed P) (typed : WellTypings P Φ) {h : Meaning} {b : ℕ} (objects : ObjectsFit P h) (exceptions : Exceptions h) where
  return_to_good : {k : ℕ} {M : Owned} {v : Value} {fs : List Frame} → method_at P k ≡ Some M → Fits P h v M.method.result → Below P Φ h b k fs → Good P Φ h b (return_to P h v (length M.method.params) fs)
  return_to_good me f bottom = good_returned me f
  return_to_good {M = M} me f (caller {f = g} fits waits below) =
      let same : waits.callee ≡ M = some_inj (sym waits.callee_is ∙ me) in
      let many : length M.method.params ≡ waits.count = ap (λ (O : Owned). length O.method.params) (sym same) ∙ waits.many in
      let t = (typed _ _ fits.method_is).each _ _ _ _ waits.at_invoke fits.row_is in
      let r = resume w waits.name waits.count t.rule t.flows fits.stack_fits waits.holds waits.class_is waits.seen me in
      bind _ fits.method_is (bind _ (rw (← many) at waits.holds) (guard (lt-ltb _ _ (shorter _ r.fits r.room))
      (arrives fits.method_is below objects exceptions r.flows (cons (fit_up f r.gives) r.fits) fits.registers_fit)))

  pub return_good : {k pc : ℕ} {M : Owned} {regs stk : List Value} {st : List Ty} {lt : List Cell} {rest : List Frame} {es : List Edge} → Now P Φ h b (frame k pc stk regs) rest M st lt → Rule P M Return pc st lt es → FitAll P h stk st → Good P Φ h b (exec P Return h M (frame k pc stk regs) rest)
  return_good now (return le) (cons f s) = guard (fits_tested w (fit_up f le)) (return_to_good now.frame_fits.method_is (fit_up f le) now.below)
