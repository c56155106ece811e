-- Type safety: every call keeps a state that fits, and no step of one is unsound. Assumes nothing.
use Rattle.std.proofs.Common.{◌≡◌, ℕ, zero, suc, Bool, true, false, cond, eqb, List, Some, None, Ok, Err, Option, Result, sym, refl, ap, ◌∙◌, subst, arith}
use Rattle.std.specs.List.{slice_get}
use Rattle.std.proofs.lemmas.Bool.{cond_both}
use Rattle.heap.specs.declared.value.Value.{Value}
use Rattle.heap.specs.Meaning.{Meaning}
use Rattle.heap.specs.Calls.{with_object, after_empty}
use Rattle.jinja.specs.declared.ty.Ty.{Ty}
use Rattle.jinja.specs.declared.instr.Instr.{Instr}
use Rattle.jinja.specs.declared.instr.Instr.TheVariants.{Load, Store, Push, Pop, New, Getfield, Putfield, Checkcast, Invoke, Return, IAdd, CmpEq, IfFalse, Goto, Throw}
use Rattle.jinja.specs.declared.answer.Answer.{Answer}
use Rattle.jinja.specs.declared.answer.Answer.TheVariants as answer
use Rattle.jinja.specs.declared.answer.Refusal.{Refusal}
use Rattle.jinja.specs.declared.answer.Refusal.TheVariants as refusal
use Rattle.jinja.specs.declared.answer.Phase.{Phase}
use Rattle.jinja.specs.declared.answer.Phase.TheVariants.{Idle, Running, Finished, Uncaught}
use Rattle.jinja.specs.declared.answer.Outcome.{Outcome}
use Rattle.jinja.specs.declared.answer.Outcome.TheVariants.{Returned, Threw}
use Rattle.jinja.specs.declared.answer.Ended.{Ended}
use Rattle.jinja.specs.declared.answer.Ran.{Ran}
use Rattle.jinja.specs.Answers.{answer_number}
use Rattle.jinja.specs.Program.{Program}
use Rattle.jinja.specs.Classes.{maybe, IsClass}
use Rattle.jinja.specs.Lookups.{Owned, method_at, sees}
use Rattle.jinja.specs.WellFormed.{WellFormed}
use Rattle.jinja.specs.Rows.{Cell, Table}
use Rattle.jinja.specs.Rule.{Edge, Rule}
use Rattle.jinja.specs.Handlers.{null_pointer, class_cast, out_of_memory}
use Rattle.jinja.specs.WellTyping.{FlowAll, WellTypings}
use Rattle.jinja.specs.Values.{class_of, fit_all, start_row}
use Rattle.jinja.specs.Step.{Frame, Next, exec, next_step}
use Rattle.jinja.specs.State.{State, made, settled, step_in, step, run_on, run}
use Rattle.jinja.specs.Calls.{this_at, begun, emptied, add_object, first_objects, begin_with, begin_seen, begin_in, begin, end_with, end_in}
use Rattle.jinja.specs.Fits.{Fits, FitAll, FitCells, ObjectsFit, Exceptions, bottom, Stand, stand, PhaseFits, idle_fits, running_fits, finished_fits, uncaught_fits, StateFits}
use Rattle.jinja.specs.Safety.{TypeSafety}
use Rattle.jinja.proofs.Options.{conflict, some_inj, nth_inside}
use Rattle.jinja.proofs.Climbs.{built_in_class, lower_exists}
use Rattle.jinja.proofs.Inheritance.{inheritance}
use Rattle.jinja.proofs.Bridge.{passed, tested}
use Rattle.jinja.proofs.Values.{Grows, all_grow, fit_all_found}
use Rattle.jinja.proofs.Objects.{objects_added}
use Rattle.jinja.proofs.Good.{Good, good_goes, good_returned, good_threw, good_full, Now, bind}
use Rattle.jinja.proofs.Instructions.{frame, Handled, load_good, store_good, push_good, pop_good, new_good, getfield_good, putfield_good, checkcast_good, iadd_good, cmpeq_good, iffalse_good, goto_good, throw_good}
use Rattle.jinja.proofs.Invoking.{opened_fits, invoke_good, return_good}

module _ {P : Program} {Φ : ℕ → Table} (w : WellFormed P) (typed : WellTypings P Φ) {h : Meaning} {b k pc : ℕ} {M : Owned} {regs : List Value} {rest : List Frame} where
  exec_good : (i : Instr) {stk : List Value} {st : List Ty} {lt : List Cell} {es : List Edge} → slice_get M.method.code pc ≡ Some i → Now P Φ h b (frame k pc stk regs) rest M st lt → Rule P M i pc st lt es → FlowAll P M (Φ k) es → FitAll P h stk st → FitCells P h regs lt → Handled P Φ M k pc st lt i → Good P Φ h b (exec P i h M (frame k pc stk regs) rest)
  exec_good (Load n) is now u fl s r c = load_good n now u fl s r
  exec_good (Store n) is now u fl s r c = store_good n now u fl s r
  exec_good (Push v) is now u fl s r c = push_good v now u fl s r
  exec_good Pop is now u fl s r c = pop_good now u fl s r
  exec_good (New d) is now u fl s r c = new_good w typed d now u fl s r c
  exec_good (Getfield f d) is now u fl s r c = getfield_good w typed f d now u fl s r c
  exec_good (Putfield f d) is now u fl s r c = putfield_good w typed f d now u fl s r c
  exec_good (Checkcast d) is now u fl s r c = checkcast_good w typed d now u fl s r c
  exec_good (Invoke m n) is now u fl s r c = invoke_good w typed m n is now u s c
  exec_good Return is now u fl s r c = return_good w typed now.objects now.exceptions now u s
  exec_good IAdd is now u fl s r c = iadd_good now u fl s r
  exec_good CmpEq is now u fl s r c = cmpeq_good now u fl s r
  exec_good (IfFalse z) is now u fl s r c = iffalse_good z now u fl s r
  exec_good (Goto z) is now u fl s r c = goto_good z now u fl s r
  exec_good Throw is now u fl s r c = throw_good w typed now u s c

-- an answer other than unsound, and a state that fits and is not idle
pub record Kept (P : Program) (Φ : ℕ → Table) (b : ℕ) (o : Answer × State) : Type 0 where
  pub sound : o.0 ≡ answer.Unsound → ⊥
  pub fits : StateFits P Φ b o.1
  pub awake : o.1.phase ≡ Idle → ⊥

pub record RanKept (P : Program) (Φ : ℕ → Table) (b : ℕ) (o : Ran × State) : Type 0 where
  pub sound : o.0.last ≡ answer.Unsound → ⊥
  pub fits : StateFits P Φ b o.1

-- the heap that begin makes
pub record FirstFit (P : Program) (h : Meaning) (c : ℕ) : Type 0 where
  pub objects : ObjectsFit P h
  pub exceptions : Exceptions h
  pub this_is : class_of h this_at ≡ Some c

while_running : {P : Program} {Φ : ℕ → Table} {h : Meaning} {b : ℕ} {p : Phase} {fs : List Frame} {o : Outcome} → PhaseFits P Φ h b p fs o → p ≡ Running → Exceptions h × Stand P Φ h b fs
while_running idle_fits e = absurd (let z : ◌≡◌ {A = ℕ} 0 1 = cc in omega arith)
while_running (running_fits x st) e = (x, st)
while_running (finished_fits m f) e = absurd (let z : ◌≡◌ {A = ℕ} 0 1 = cc in omega arith)
while_running (uncaught_fits is) e = absurd (let z : ◌≡◌ {A = ℕ} 0 1 = cc in omega arith)

err_ok : {A B : Type 0} {e : B} {a : A} → ◌≡◌ {A = Result A B} (Err e) (Ok a) → ⊥
err_ok e = let z : ◌≡◌ {A = ℕ} 0 1 = cc in omega arith

from_empty : (l h : Meaning) → Grows (after_empty l) h
unfolding class_of
from_empty l h a c e = absurd (conflict e)

module _ {P : Program} {Φ : ℕ → Table} where
  while_idle : {h h' : Meaning} {b : ℕ} {p : Phase} {fs : List Frame} {o : Outcome} → PhaseFits P Φ h b p fs o → p ≡ Idle → PhaseFits P Φ h' b p fs o
  while_idle idle_fits e = idle_fits
  while_idle (running_fits x st) e = absurd (let z : ◌≡◌ {A = ℕ} 0 1 = cc in omega arith)
  while_idle (finished_fits m f) e = absurd (let z : ◌≡◌ {A = ℕ} 0 1 = cc in omega arith)
  while_idle (uncaught_fits is) e = absurd (let z : ◌≡◌ {A = ℕ} 0 1 = cc in omega arith)

  emptied_fits : {b : ℕ} (s : State) → s.phase ≡ Idle → StateFits P Φ b s → StateFits P Φ b (emptied s)
  emptied_fits s idle fits = record { objects_fit = record { each = λ a o e. absurd (conflict e) }; phase_fits = while_idle fits.phase_fits idle }

  returned_fits : {h : Meaning} {b : ℕ} {p : Phase} {fs : List Frame} {o : Outcome} {v : Value} {N : Owned} → PhaseFits P Φ h b p fs o → o ≡ Returned v → method_at P b ≡ Some N → Fits P h v N.method.result
  returned_fits idle_fits e m = absurd (let z : ◌≡◌ {A = ℕ} 0 1 = cc in omega arith)
  returned_fits (running_fits x st) e m = absurd (let z : ◌≡◌ {A = ℕ} 0 1 = cc in omega arith)
  returned_fits {h = h} {v = v} {N} (finished_fits {M = M} {v = u} me f) e m =
      let x : u ≡ v = cc in subst (λ v. Fits P h v N.method.result) x (subst (λ (O : Owned). Fits P h u O.method.result) (some_inj (sym me ∙ m)) f)
  returned_fits (uncaught_fits is) e m = absurd (let z : ◌≡◌ {A = ℕ} 0 1 = cc in omega arith)

  thrown_is : {h : Meaning} {b : ℕ} {p : Phase} {fs : List Frame} {o : Outcome} {a : ℕ} → PhaseFits P Φ h b p fs o → o ≡ Threw a → (c : ℕ) × (class_of h a ≡ Some c)
  thrown_is idle_fits e = absurd (let z : ◌≡◌ {A = ℕ} 0 1 = cc in omega arith)
  thrown_is (running_fits x st) e = absurd (let z : ◌≡◌ {A = ℕ} 0 1 = cc in omega arith)
  thrown_is (finished_fits m f) e = absurd (let z : ◌≡◌ {A = ℕ} 0 1 = cc in omega arith)
  thrown_is {h = h} (uncaught_fits {a = x} {c = c} is) e = (c, subst (λ a. class_of h a ≡ Some c) (threw_inj e) is)
    where
      threw_inj : {x y : ℕ} → Threw x ≡ Threw y → x ≡ y
      threw_inj e = cc

module _ {P : Program} {Φ : ℕ → Table} (w : WellFormed P) (typed : WellTypings P Φ) where
  next_good : {h : Meaning} {b : ℕ} {fs : List Frame} → ObjectsFit P h → Exceptions h → Stand P Φ h b fs → Good P Φ h b (next_step P h fs)
  next_good objects exceptions (stand {f = f} {M = M} fits below) =
      let i = nth_inside M.method.code f.pc fits.inside in
      let t = (typed _ _ fits.method_is).each _ _ _ _ i.1 fits.row_is in
      bind _ fits.method_is (bind _ i.1 (exec_good w typed i.0 i.1 (record { frame_fits = fits; below = below; objects = objects; exceptions = exceptions }) t.rule t.flows fits.stack_fits fits.registers_fit t.caught))

  settled_kept : {b : ℕ} {o : Option Next} (s : State) → StateFits P Φ b s → (s.phase ≡ Idle → ⊥) → Good P Φ s.heap b o → Kept P Φ b (settled s o)
  settled_kept s fits awake (good_goes objects exceptions st) =
      record { sound = λ e. let z = ap answer_number e in omega arith; fits = record { objects_fit = objects; phase_fits = running_fits exceptions st }; awake = λ e. let z : ◌≡◌ {A = ℕ} 0 1 = cc in omega arith }
  settled_kept s fits awake (good_returned me f) =
      record { sound = λ e. let z = ap answer_number e in omega arith; fits = record { objects_fit = fits.objects_fit; phase_fits = finished_fits me f }; awake = λ e. let z : ◌≡◌ {A = ℕ} 0 1 = cc in omega arith }
  settled_kept s fits awake (good_threw is) =
      record { sound = λ e. let z = ap answer_number e in omega arith; fits = record { objects_fit = fits.objects_fit; phase_fits = uncaught_fits is }; awake = λ e. let z : ◌≡◌ {A = ℕ} 0 1 = cc in omega arith }
  settled_kept s fits awake good_full = record { sound = λ e. let z = ap answer_number e in omega arith; fits = fits; awake = awake }

  step_in_kept : {b : ℕ} (p : Phase) (s : State) → s.phase ≡ p → StateFits P Φ b s → (s.phase ≡ Idle → ⊥) → Kept P Φ b (step_in P p s)
  step_in_kept Idle s e fits awake = absurd (awake e)
  step_in_kept Running s e fits awake = let r = while_running fits.phase_fits e in settled_kept s fits awake (next_good fits.objects_fit r.0 r.1)
  step_in_kept Finished s e fits awake = record { sound = λ e. let z = ap answer_number e in omega arith; fits = fits; awake = awake }
  step_in_kept Uncaught s e fits awake = record { sound = λ e. let z = ap answer_number e in omega arith; fits = fits; awake = awake }

  pub step_kept : {b : ℕ} (s : State) → StateFits P Φ b s → (s.phase ≡ Idle → ⊥) → Kept P Φ b (step P s)
  step_kept s fits awake = step_in_kept s.phase s refl fits awake

  run_on_kept : {b : ℕ} (x : Answer) (t : State) (o : Ran × State) → Kept P Φ b (x, t) → RanKept P Φ b o → RanKept P Φ b (run_on P x t o)
  run_on_kept answer.Stepped t o k r = record { sound = r.sound; fits = r.fits }
  run_on_kept answer.Finished t o k r = record { sound = k.sound; fits = k.fits }
  run_on_kept answer.Uncaught t o k r = record { sound = k.sound; fits = k.fits }
  run_on_kept answer.FramesFull t o k r = record { sound = k.sound; fits = k.fits }
  run_on_kept answer.Unsound t o k r = record { sound = k.sound; fits = k.fits }

  run_kept : {b : ℕ} (n : ℕ) (s : State) → StateFits P Φ b s → (s.phase ≡ Idle → ⊥) → RanKept P Φ b (run P n s)
  run_kept zero s fits awake = record { sound = λ e. let z = ap answer_number e in omega arith; fits = fits }
  run_kept (suc n) s fits awake =
      let k = step_kept s fits awake in run_on_kept (step P s).0 (step P s).1 (run P n (step P s).1) k (run_kept n (step P s).1 k.fits k.awake)

  -- begin
  first_fit : {h : Meaning} (l : Meaning) (c : ℕ) → IsClass P c → first_objects P (after_empty l) c ≡ Some h → FirstFit P h c
  unfolding class_of
  first_fit l c i e =
      let a = passed (add_object P (after_empty l) null_pointer) _ e in
      let b = passed (add_object P a.0 class_cast) _ a.2 in
      let d = passed (add_object P b.0 out_of_memory) _ b.2 in
      let h0 = after_empty l in
      let h1 = with_object h0 null_pointer (start_row P null_pointer) in
      let h2 = with_object h1 class_cast (start_row P class_cast) in
      let h3 = with_object h2 out_of_memory (start_row P out_of_memory) in
      let h4 = with_object h3 c (start_row P c) in
      let e1 : h1 ≡ a.0 = some_inj (tested _ _ a.1).1 in
      let e2 : with_object a.0 class_cast (start_row P class_cast) ≡ b.0 = some_inj (tested _ _ b.1).1 in
      let e3 : with_object b.0 out_of_memory (start_row P out_of_memory) ≡ d.0 = some_inj (tested _ _ d.1).1 in
      let e4 = some_inj (tested _ _ d.2).1 in
      let is : h4 ≡ _ = ap (λ h. with_object h c (start_row P c)) (ap (λ h. with_object h out_of_memory (start_row P out_of_memory)) (ap (λ h. with_object h class_cast (start_row P class_cast)) e1 ∙ e2) ∙ e3) ∙ e4 in
      let empty : ObjectsFit P h0 = record { each = λ a o e. absurd (conflict e) } in
      let built = built_in_class P in
      subst (λ h. FirstFit P h c) is (record {
        objects = objects_added w c i (objects_added w out_of_memory (built _ (omega arith)) (objects_added w class_cast (built _ (omega arith)) (objects_added w null_pointer (built _ (omega arith)) empty)));
        exceptions = record { at_0 = refl; at_1 = refl; at_2 = refl };
        this_is = refl;
      })

  begun_fits : {h : Meaning} {c k : ℕ} {N : Owned} {args : List Value} (s : State) (m : ℕ) → FirstFit P h c → sees P c m ≡ Some k → method_at P k ≡ Some N → FitAll P (after_empty s.heap) args N.method.params → StateFits P Φ k (begun s h N k args)
  begun_fits {h} s m first seen callee fits =
      record { objects_fit = first.objects; phase_fits = running_fits first.exceptions (stand (opened_fits w typed m first.this_is seen callee (all_grow (from_empty s.heap h) fits)).2 bottom) }

  abbrev Begins : ℕ → ℕ → Result ℕ Refusal × State → Type 0
  Begins c m o = (k : ℕ) × StateFits P Φ k o.1 × ((t : ℕ) → o.0 ≡ Ok t → sees P c m ≡ Some k)

  refused : {b : ℕ} {e : Refusal} {s : State} (c m : ℕ) → StateFits P Φ b s → Begins c m (Err e, s)
  refused {b} c m fits = (b, fits, λ t e. absurd (err_ok e))

  begin_with_kept : {b k : ℕ} {N : Owned} (c m : ℕ) (args : List Value) (s : State) → s.phase ≡ Idle → StateFits P Φ b s → sees P c m ≡ Some k → method_at P k ≡ Some N → IsClass P c → Begins c m (begin_with P c args k N s)
  begin_with_kept {b} {k} {N} c m args s idle fits seen callee i =
      go (fit_all P (after_empty s.heap) args N.method.params) refl (first_objects P (after_empty s.heap) c) refl
    where
      go : (t : Bool) → fit_all P (after_empty s.heap) args N.method.params ≡ t → (o : Option Meaning) → first_objects P (after_empty s.heap) c ≡ o → Begins c m (cond t (maybe o (Err refusal.NoSpace, emptied s) (λ h. (Ok s.number, begun s h N k args))) (Err refusal.Argument, s))
      go false q o e = refused c m fits
      go true q None e = refused c m (emptied_fits s idle fits)
      go true q (Some h) e = (k, begun_fits s m (first_fit s.heap c i e) seen callee (fit_all_found w (after_empty s.heap) args N.method.params q), λ t x. seen)

  begin_seen_kept : {b : ℕ} (c m : ℕ) (args : List Value) (o : Option ℕ) (s : State) → sees P c m ≡ o → s.phase ≡ Idle → StateFits P Φ b s → Begins c m (begin_seen P c args o s)
  begin_seen_kept c m args None s e idle fits = refused c m fits
  begin_seen_kept c m args (Some k) s e idle fits =
      let above = (inheritance P w).seen_above m e in
      subst (λ o. Begins c m (maybe o (Err refusal.Unseen, s) (λ N. begin_with P c args k N s))) (sym above.1) (begin_with_kept c m args s idle fits e above.1 (lower_exists above.2))

  begin_in_kept : {b : ℕ} (p : Phase) (c m : ℕ) (args : List Value) (s : State) → s.phase ≡ p → StateFits P Φ b s → Begins c m (begin_in P p c m args s)
  begin_in_kept Idle c m args s e fits = begin_seen_kept c m args (sees P c m) s refl e fits
  begin_in_kept Running c m args s e fits = refused c m fits
  begin_in_kept Finished c m args s e fits = refused c m fits
  begin_in_kept Uncaught c m args s e fits = refused c m fits

  begin_kept : {b : ℕ} {s : State} (c m : ℕ) (args : List Value) → StateFits P Φ b s → (k : ℕ) × StateFits P Φ k (begin P c m args s).1 × ((t : ℕ) → (begin P c m args s).0 ≡ Ok t → sees P c m ≡ Some k)
  begin_kept {s = s} c m args fits = begin_in_kept s.phase c m args s refl fits

  -- end
  end_with_kept : {b : ℕ} (t : ℕ) (s : State) → StateFits P Φ b s → StateFits P Φ b (end_with P t s).1
  end_with_kept {b} t s fits = cond_both (eqb t s.number) _ _ (λ (o : Result Ended Refusal × State). StateFits P Φ b o.1) (λ e. record { objects_fit = fits.objects_fit; phase_fits = idle_fits }) (λ e. fits)

  end_in_kept : {b : ℕ} (p : Phase) (t : ℕ) (s : State) → StateFits P Φ b s → StateFits P Φ b (end_in P p t s).1
  end_in_kept Idle t s fits = fits
  end_in_kept Running t s fits = end_with_kept t s fits
  end_in_kept Finished t s fits = end_with_kept t s fits
  end_in_kept Uncaught t s fits = end_with_kept t s fits

  made_fits : (h : Meaning) (number b : ℕ) → StateFits P Φ b (made h number)
  made_fits h number b = record { objects_fit = record { each = λ a o e. absurd (conflict e) }; phase_fits = idle_fits }

pub type_safety : TypeSafety
type_safety P w Φ typed = record {
  making = made_fits w typed;
  stepping = λ fits awake. let k = step_kept w typed _ fits awake in (k.sound, k.fits);
  running = λ n fits awake. let k = run_kept w typed n _ fits awake in (k.sound, k.fits);
  beginning = begin_kept w typed;
  ending = λ {b} {s} t fits. end_in_kept w typed s.phase t s fits;
  value = λ s fits e m. returned_fits fits.phase_fits e m;
  thrown = λ s fits e. thrown_is fits.phase_fits e;
}
