-- A run that was begun can be ended: no step makes the machine idle or changes its number.
use Rattle.std.proofs.Common.{◌≡◌, ℕ, zero, suc, Bool, true, false, cond, List, Some, None, Ok, Err, Option, Result, sym, refl, ap, ◌∙◌, subst, arith, eq-eqb}
use Rattle.heap.specs.declared.value.Value.{Value}
use Rattle.heap.specs.Meaning.{Meaning}
use Rattle.heap.specs.Calls.{after_empty}
use Rattle.jinja.specs.declared.answer.Answer.{Answer}
use Rattle.jinja.specs.declared.answer.Answer.TheVariants as answer
use Rattle.jinja.specs.declared.answer.Ended.{Ended}
use Rattle.jinja.specs.declared.answer.Refusal.{Refusal}
use Rattle.jinja.specs.declared.answer.Refusal.TheVariants as refusal
use Rattle.jinja.specs.declared.answer.Phase.{Phase}
use Rattle.jinja.specs.declared.answer.Phase.TheVariants.{Idle, Running, Finished, Uncaught}
use Rattle.jinja.specs.declared.answer.Ran.{Ran}
use Rattle.jinja.specs.Classes.{maybe}
use Rattle.jinja.specs.Program.{Program}
use Rattle.jinja.specs.Lookups.{Owned, sees, method_at}
use Rattle.jinja.specs.Values.{fit_all}
use Rattle.jinja.specs.Step.{Next, goes, returned, threw, frames_full, next_step}
use Rattle.jinja.specs.State.{State, settled, step_in, step, run_on, run}
use Rattle.jinja.specs.Calls.{begin_with, begin_seen, begin_in, begin, end_in, end_with, end, ended, emptied, begun, first_objects}
use Rattle.machine.specs.Playing.{ending}

-- not idle
pub data Awake : Phase → Type 0 where
  running : Awake Running
  finished : Awake Finished
  uncaught : Awake Uncaught

-- awake, and of this number
abbrev Open : ℕ → State → Type 0
Open t s = Awake s.phase × (s.number ≡ t)

-- what a begin left, where it was accepted
abbrev Opened : Result ℕ Refusal → State → Type 0
Opened (Ok t) s = Open t s
Opened (Err e) s = Unit {0}

module _ (P : Program) where
  with_opens : (N : Owned) (k : ℕ) (args : List Value) (s : State) (b : Bool) (o : Option Meaning) →
      let r : Result ℕ Refusal × State = cond b (maybe o (Err refusal.NoSpace, emptied s) (λ h. (Ok s.number, begun s h N k args))) (Err refusal.Argument, s) in Opened r.0 r.1
  with_opens N k args s true None = tt
  with_opens N k args s true (Some h) = (running, refl)
  with_opens N k args s false o = tt

  found_opens : (c : ℕ) (args : List Value) (k : ℕ) (o : Option Owned) (s : State) →
      let r = maybe o (Err refusal.Unseen, s) (λ N. begin_with P c args k N s) in Opened r.0 r.1
  found_opens c args k None s = tt
  found_opens c args k (Some N) s = with_opens N k args s (fit_all P (after_empty s.heap) args N.method.params) (first_objects P (after_empty s.heap) c)

  seen_opens : (c : ℕ) (args : List Value) (o : Option ℕ) (s : State) → Opened (begin_seen P c args o s).0 (begin_seen P c args o s).1
  seen_opens c args None s = tt
  seen_opens c args (Some k) s = found_opens c args k (method_at P k) s

  phase_opens : (p : Phase) (c m : ℕ) (args : List Value) (s : State) → Opened (begin_in P p c m args s).0 (begin_in P p c m args s).1
  phase_opens Idle c m args s = seen_opens c args (sees P c m) s
  phase_opens Running c m args s = tt
  phase_opens Finished c m args s = tt
  phase_opens Uncaught c m args s = tt

  begin_opens : {t : ℕ} {b : State} (c m : ℕ) (args : List Value) (s : State) → (Ok t, b) ≡ begin P c m args s → Open t b
  begin_opens c m args s e = let F : Result ℕ Refusal × State → Type 0 = λ r. Opened r.0 r.1 in subst F (sym e) (phase_opens s.phase c m args s)

  settled_open : {t : ℕ} (s : State) (o : Option Next) → Open t s → Open t (settled s o).1
  settled_open s None a = a
  settled_open s (Some (goes h fs)) a = (running, a.1)
  settled_open s (Some (returned v)) a = (finished, a.1)
  settled_open s (Some (threw x)) a = (uncaught, a.1)
  settled_open s (Some frames_full) a = a

  step_in_open : {t : ℕ} (p : Phase) (s : State) → Open t s → Open t (step_in P p s).1
  step_in_open Idle s a = a
  step_in_open Running s a = settled_open s (next_step P s.heap s.frames) a
  step_in_open Finished s a = a
  step_in_open Uncaught s a = a

  on_open : {t : ℕ} (x : Answer) (s : State) (o : Ran × State) → Open t s → Open t o.1 → Open t (run_on P x s o).1
  on_open answer.Stepped s o a b = b
  on_open answer.Finished s o a b = a
  on_open answer.Uncaught s o a b = a
  on_open answer.FramesFull s o a b = a
  on_open answer.Unsound s o a b = a

  run_open : {t : ℕ} (n : ℕ) (s : State) → Open t s → Open t (run P n s).1
  run_open zero s a = a
  run_open (suc n) s a =
      let b = step_in_open s.phase s a in
      on_open (step P s).0 (step P s).1 (run P n (step P s).1) b (run_open n (step P s).1 b)

  with_ends : (t : ℕ) (s : State) → s.number ≡ t → end_with P t s ≡ (Ok (ending s), ended s)
  with_ends t s e = rw (eq-eqb t s.number (sym e))

  in_ends : (p : Phase) (t : ℕ) (s : State) → Awake p → s.number ≡ t → end_in P p t s ≡ (Ok (ending s), ended s)
  in_ends Idle t s a e = elim a [ ]
  in_ends Running t s running e = with_ends t s e
  in_ends Finished t s finished e = with_ends t s e
  in_ends Uncaught t s uncaught e = with_ends t s e

  -- the ticket of a begin ends the run, however far it went
  pub begun_ends : {t : ℕ} {b : State} (c m n : ℕ) (args : List Value) (s : State) → (Ok t, b) ≡ begin P c m args s → end P t (run P n b).1 ≡ (Ok (ending (run P n b).1), ended (run P n b).1)
  begun_ends {t} {b} c m n args s e =
      let o = run_open n b (begin_opens c m args s e) in
      in_ends (run P n b).1.phase t (run P n b).1 o.0 o.1

-- so an end with that ticket is not refused; the program stays, as each call says of itself
pub never_refused : {P P₁ P₂ : Program} {t : ℕ} {b s₂ s₃ : State} {r : Ran} {x : Refusal} (c m n : ℕ) (args : List Value) (s : State) → P₁ ≡ P → P₂ ≡ P₁ → (Ok t, b) ≡ begin P c m args s → (r, s₂) ≡ run P₁ n b → (Err x, s₃) ≡ end P₂ t s₂ → ⊥
never_refused {P} {P₁} {P₂} {t} {b} {s₂} {s₃} {r} {x} c m n args s p q e g h =
    let ran : (r, s₂) ≡ run P n b = subst (λ (Q : Program). (r, s₂) ≡ run Q n b) p g in
    let left : s₂ ≡ (run P n b).1 = ap (λ (o : Ran × State). o.1) ran in
    let refused : (Err x, s₃) ≡ end P t s₂ = subst (λ (Q : Program). (Err x, s₃) ≡ end Q t s₂) (q ∙ p) h in
    let ends = begun_ends P c m n args s e in
    let same : Err x ≡ Ok (ending (run P n b).1) = ap (λ (o : Result Ended Refusal × State). o.0) (refused ∙ ap (λ (u : State). end P t u) left ∙ ends) in
    let z : ◌≡◌ {A = ℕ} 0 1 = cc in omega arith
