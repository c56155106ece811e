-- The laws of runs, refusals and ends. Assumes nothing.
use Rattle.std.proofs.Common.{◌≡◌, ℕ, zero, suc, ◌+◌, ◌≤◌, min, Bool, true, false, cond, eqb, List, ℤ, pos, negsuc, Some, None, Ok, Err, Option, Result, sym, refl, ap, ◌∙◌, suc-add, zero-add, arith}
use mathlib.Core.Path.{subst⁻¹}
use Rattle.std.proofs.lemmas.Bool.{eqb-true, eq-eqb, cond_both, false≢true}
use Rattle.heap.specs.declared.value.Value.{Value}
use Rattle.heap.specs.declared.value.Value.TheVariants as value
use Rattle.heap.specs.Meaning.{Meaning}
use Rattle.heap.specs.Calls.{after_empty}
use Rattle.jinja.specs.declared.answer.Answer.{Answer}
use Rattle.jinja.specs.declared.answer.Answer.TheVariants as answer
use Rattle.jinja.specs.declared.answer.Refusal.{Refusal}
use Rattle.jinja.specs.declared.answer.Refusal.TheVariants as refusal
use Rattle.jinja.specs.declared.answer.Phase.{Phase}
use Rattle.jinja.specs.declared.answer.Phase.TheVariants.{Idle, Running, Finished, Uncaught}
use Rattle.jinja.specs.declared.answer.Ended.{Ended}
use Rattle.jinja.specs.declared.answer.Ran.{Ran}
use Rattle.jinja.specs.declared.answer.Reply.{Reply}
use Rattle.jinja.specs.declared.answer.Reply.TheVariants as reply
use Rattle.jinja.specs.Program.{Program}
use Rattle.jinja.specs.Classes.{maybe}
use Rattle.jinja.specs.Lookups.{Owned, method_at, sees}
use Rattle.jinja.specs.Values.{same_boolean, same_integer, same_value, fit_all}
use Rattle.jinja.specs.Step.{Next, goes, returned, threw, frames_full, next_step}
use Rattle.jinja.specs.State.{State, most_steps, settled, step_in, step, run_on, run}
use Rattle.jinja.specs.Calls.{begun, emptied, first_objects, begin_with, begin_seen, begin_in, begin, unless_idle, end_with, end_in, end, Call, begins, steps, runs, ends, replied, perform}
use Rattle.jinja.specs.MachineLaws.{and_then, MachineLawsHold, ValuesWhole}

-- a step that answered 0, before a run
abbrev counting : Ran × State → Ran × State
counting o = (record { count = 1 + o.0.count; last = o.0.last }, o.1)

min_twice : (a c m : ℕ) → min (min (a + 1) m + c) m ≡ min (a + (1 + c)) m
min_twice a c m = omega arith

ok_err : {A B : Type 0} {a : A} {e : B} → ◌≡◌ {A = Result A B} (Ok a) (Err e) → ⊥
ok_err q = let z : ◌≡◌ {A = ℕ} 0 1 = cc in omega arith

err_inj : {A B : Type 0} {d e : B} → ◌≡◌ {A = Result A B} (Err d) (Err e) → d ≡ e
err_inj q = cc

module _ (P : Program) where
  one_more : (b : ℕ) (x : Answer) (o : Ran × State) → counting (and_then P x b o) ≡ and_then P x b (counting o)
  one_more b answer.Stepped o = let e : 1 + (o.0.count + (run P b o.1).0.count) ≡ 1 + o.0.count + (run P b o.1).0.count = omega arith in rw e
  one_more b answer.Finished o = refl
  one_more b answer.Uncaught o = refl
  one_more b answer.FramesFull o = refl
  one_more b answer.Unsound o = refl

  on_then : (x : Answer) (t : State) (b : ℕ) (p o : Ran × State) → p ≡ and_then P o.0.last b o → run_on P x t p ≡ and_then P (run_on P x t o).0.last b (run_on P x t o)
  on_then answer.Stepped t b p o e = ap counting e ∙ one_more b o.0.last o
  on_then answer.Finished t b p o e = refl
  on_then answer.Uncaught t b p o e = refl
  on_then answer.FramesFull t b p o e = refl
  on_then answer.Unsound t b p o e = refl

  none_before : (o : Ran × State) → o ≡ (record { count = 0 + o.0.count; last = o.0.last }, o.1)
  none_before o = let e : 0 + o.0.count ≡ o.0.count = zero-add o.0.count in rw e

  runs_add : (a b : ℕ) (s : State) → run P (a + b) s ≡ and_then P (run P a s).0.last b (run P a s)
  runs_add zero b s = rw zero-add (none_before (run P b s))
  runs_add (suc a) b s = rw suc-add (on_then (step P s).0 (step P s).1 b (run P (a + b) (step P s).1) (run P a (step P s).1) (runs_add a b (step P s).1))

  -- the count of steps after one step
  abbrev Ticks : State → Answer → State → Type 0
  Ticks s answer.Stepped t = t.steps ≡ min (s.steps + 1) most_steps
  Ticks s answer.Finished t = t.steps ≡ s.steps
  Ticks s answer.Uncaught t = t.steps ≡ s.steps
  Ticks s answer.FramesFull t = t.steps ≡ s.steps
  Ticks s answer.Unsound t = t.steps ≡ s.steps

  settled_ticks : (s : State) (o : Option Next) → Ticks s (settled s o).0 (settled s o).1
  settled_ticks s None = refl
  settled_ticks s (Some (goes h fs)) = refl
  settled_ticks s (Some (returned v)) = refl
  settled_ticks s (Some (threw a)) = refl
  settled_ticks s (Some frames_full) = refl

  step_ticks : (p : Phase) (s : State) → Ticks s (step_in P p s).0 (step_in P p s).1
  step_ticks Idle s = refl
  step_ticks Running s = settled_ticks s (next_step P s.heap s.frames)
  step_ticks Finished s = refl
  step_ticks Uncaught s = refl

  run_on_counts : (s : State) (x : Answer) (t : State) (o : Ran × State) → s.steps ≤ most_steps → Ticks s x t → (t.steps ≤ most_steps → o.1.steps ≡ min (t.steps + o.0.count) most_steps) → (run_on P x t o).1.steps ≡ min (s.steps + (run_on P x t o).0.count) most_steps
  run_on_counts s answer.Stepped t o l k f = f (omega arith) ∙ ap (λ n. min (n + o.0.count) most_steps) k ∙ min_twice s.steps o.0.count most_steps
  run_on_counts s answer.Finished t o l k f = omega arith
  run_on_counts s answer.Uncaught t o l k f = omega arith
  run_on_counts s answer.FramesFull t o l k f = omega arith
  run_on_counts s answer.Unsound t o l k f = omega arith

  counts : (n : ℕ) (s : State) → s.steps ≤ most_steps → (run P n s).1.steps ≡ min (s.steps + (run P n s).0.count) most_steps
  counts zero s l = omega arith
  counts (suc n) s l = run_on_counts s (step P s).0 (step P s).1 (run P n (step P s).1) l (step_ticks s.phase s) (counts n (step P s).1)

  settled_keeps : (s : State) (o : Option Next) → ((settled s o).0 ≡ answer.Stepped → ⊥) → (settled s o).1 ≡ s
  settled_keeps s None f = refl
  settled_keeps s (Some (goes h fs)) f = absurd (f refl)
  settled_keeps s (Some (returned v)) f = absurd (f refl)
  settled_keeps s (Some (threw a)) f = absurd (f refl)
  settled_keeps s (Some frames_full) f = refl

  step_keeps : (p : Phase) (s : State) → ((step_in P p s).0 ≡ answer.Stepped → ⊥) → (step_in P p s).1 ≡ s
  step_keeps Idle s f = refl
  step_keeps Running s f = settled_keeps s (next_step P s.heap s.frames) f
  step_keeps Finished s f = refl
  step_keeps Uncaught s f = refl

  finished_stays : (n : ℕ) (s : State) → s.phase ≡ Finished → run P (suc n) s ≡ (record { count = 0; last = answer.Finished }, s)
  finished_stays n s e = subst⁻¹ (λ p. run_on P (step_in P p s).0 (step_in P p s).1 (run P n (step_in P p s).1) ≡ (record { count = 0; last = answer.Finished }, s)) e refl

  uncaught_stays : (n : ℕ) (s : State) → s.phase ≡ Uncaught → run P (suc n) s ≡ (record { count = 0; last = answer.Uncaught }, s)
  uncaught_stays n s e = subst⁻¹ (λ p. run_on P (step_in P p s).0 (step_in P p s).1 (run P n (step_in P p s).1) ≡ (record { count = 0; last = answer.Uncaught }, s)) e refl

  end_with_heap : (t : ℕ) (s : State) → (end_with P t s).1.heap ≡ s.heap
  end_with_heap t s = cond_both (eqb t s.number) _ _ (λ (o : Result Ended Refusal × State). o.1.heap ≡ s.heap) (λ e. refl) (λ e. refl)

  end_heap : (p : Phase) (t : ℕ) (s : State) → (end_in P p t s).1.heap ≡ s.heap
  end_heap Idle t s = refl
  end_heap Running t s = end_with_heap t s
  end_heap Finished t s = end_with_heap t s
  end_heap Uncaught t s = end_with_heap t s

  -- a refused call leaves the state, unless for want of space
  abbrev Refuses : {A : Type 0} → State → Result A Refusal × State → Type 0
  Refuses s o = (e : Refusal) → o.0 ≡ Err e → (e ≡ refusal.NoSpace → ⊥) → o.1 ≡ s

  awake_refuses : {A : Type 0} (p : Phase) (s : State) (o : A × State) → Refuses s (unless_idle P p s o)
  awake_refuses Idle s o e q f = refl
  awake_refuses Running s o e q f = absurd (ok_err q)
  awake_refuses Finished s o e q f = absurd (ok_err q)
  awake_refuses Uncaught s o e q f = absurd (ok_err q)

  end_with_refuses : (t : ℕ) (s : State) → Refuses s (end_with P t s)
  end_with_refuses t s = cond_both (eqb t s.number) _ _ (λ (o : Result Ended Refusal × State). Refuses s o) (λ x e q f. absurd (ok_err q)) (λ x e q f. refl)

  end_refuses : (p : Phase) (t : ℕ) (s : State) → Refuses s (end_in P p t s)
  end_refuses Idle t s e q f = refl
  end_refuses Running t s e q f = end_with_refuses t s e q f
  end_refuses Finished t s e q f = end_with_refuses t s e q f
  end_refuses Uncaught t s e q f = end_with_refuses t s e q f

  begin_with_refuses : (c k : ℕ) (args : List Value) (N : Owned) (s : State) → Refuses s (begin_with P c args k N s)
  begin_with_refuses c k args N s = go (fit_all P (after_empty s.heap) args N.method.params) (first_objects P (after_empty s.heap) c)
    where
      go : (t : Bool) (o : Option Meaning) → Refuses s (cond t (maybe o (Err refusal.NoSpace, emptied s) (λ h. (Ok s.number, begun s h N k args))) (Err refusal.Argument, s))
      go false o e q f = refl
      go true None e q f = absurd (f (sym (err_inj q)))
      go true (Some h) e q f = absurd (ok_err q)

  begin_seen_refuses : (c : ℕ) (args : List Value) (o : Option ℕ) (s : State) → Refuses s (begin_seen P c args o s)
  begin_seen_refuses c args None s e q f = refl
  begin_seen_refuses c args (Some k) s e q f = go (method_at P k) e q f
    where
      go : (o : Option Owned) → Refuses s (maybe o (Err refusal.Unseen, s) (λ N. begin_with P c args k N s))
      go None e q f = refl
      go (Some N) e q f = begin_with_refuses c k args N s e q f

  begin_refuses : (p : Phase) (c m : ℕ) (args : List Value) (s : State) → Refuses s (begin_in P p c m args s)
  begin_refuses Idle c m args s e q f = begin_seen_refuses c args (sees P c m) s e q f
  begin_refuses Running c m args s e q f = refl
  begin_refuses Finished c m args s e q f = refl
  begin_refuses Uncaught c m args s e q f = refl

  -- the refusal that a reply tells of
  replied_err : {A : Type 0} (g : A → Reply) (r : Result A Refusal) {e : Refusal} → ((a : A) (e : Refusal) → g a ≡ reply.Refused e → ⊥) → replied g r ≡ reply.Refused e → r ≡ Err e
  replied_err g (Ok a) n q = absurd (n a _ q)
  replied_err g (Err d) n q = ap Err (refused_inj q)
    where
      refused_inj : {d e : Refusal} → reply.Refused d ≡ reply.Refused e → d ≡ e
      refused_inj q = cc

  refuses : (c : Call) (s : State) (e : Refusal) → (perform P c s).0 ≡ reply.Refused e → (e ≡ refusal.NoSpace → ⊥) → (perform P c s).1 ≡ s
  refuses (begins c m args) s e q f = begin_refuses s.phase c m args s e (replied_err reply.Began (begin P c m args s).0 (λ a e x. let z : ◌≡◌ {A = ℕ} 0 1 = cc in omega arith) q) f
  refuses steps s e q f = awake_refuses s.phase s (step P s) e (replied_err reply.Stepped _ (λ a e x. let z : ◌≡◌ {A = ℕ} 0 1 = cc in omega arith) q) f
  refuses (runs n) s e q f = awake_refuses s.phase s (run P n s) e (replied_err reply.Ran _ (λ a e x. let z : ◌≡◌ {A = ℕ} 0 1 = cc in omega arith) q) f
  refuses (ends t) s e q f = end_refuses s.phase t s e (replied_err reply.Ended (end P t s).0 (λ a e x. let z : ◌≡◌ {A = ℕ} 0 1 = cc in omega arith) q) f

pub machine_laws : MachineLawsHold
machine_laws P = record {
  runs_add = runs_add P;
  counts = counts P;
  others_change_nothing = λ s f. step_keeps P s.phase s f;
  finished_stays = finished_stays P;
  uncaught_stays = uncaught_stays P;
  end_keeps_heap = λ t s. end_heap P s.phase t s;
  refusals_change_nothing = refuses P;
}

-- values
boolean_same : (b c : Bool) → same_boolean b c ≡ true → b ≡ c
boolean_same true true e = refl
boolean_same true false e = absurd (false≢true e)
boolean_same false true e = absurd (false≢true e)
boolean_same false false e = refl

integer_same : (y z : ℤ) → same_integer y z ≡ true → y ≡ z
integer_same (pos m) (pos n) e = ap pos (eqb-true m n e)
integer_same (pos m) (negsuc n) e = absurd (false≢true e)
integer_same (negsuc m) (pos n) e = absurd (false≢true e)
integer_same (negsuc m) (negsuc n) e = ap negsuc (eqb-true m n e)

value_same : (v w : Value) → same_value v w ≡ true → v ≡ w
value_same value.Unit value.Unit e = refl
value_same value.Unit value.Null e = absurd (false≢true e)
value_same value.Unit (value.Bool c) e = absurd (false≢true e)
value_same value.Unit (value.Int z) e = absurd (false≢true e)
value_same value.Unit (value.Addr a) e = absurd (false≢true e)
value_same value.Null value.Unit e = absurd (false≢true e)
value_same value.Null value.Null e = refl
value_same value.Null (value.Bool c) e = absurd (false≢true e)
value_same value.Null (value.Int z) e = absurd (false≢true e)
value_same value.Null (value.Addr a) e = absurd (false≢true e)
value_same (value.Bool b) value.Unit e = absurd (false≢true e)
value_same (value.Bool b) value.Null e = absurd (false≢true e)
value_same (value.Bool b) (value.Bool c) e = ap value.Bool (boolean_same b c e)
value_same (value.Bool b) (value.Int z) e = absurd (false≢true e)
value_same (value.Bool b) (value.Addr a) e = absurd (false≢true e)
value_same (value.Int y) value.Unit e = absurd (false≢true e)
value_same (value.Int y) value.Null e = absurd (false≢true e)
value_same (value.Int y) (value.Bool c) e = absurd (false≢true e)
value_same (value.Int y) (value.Int z) e = ap value.Int (integer_same y z e)
value_same (value.Int y) (value.Addr a) e = absurd (false≢true e)
value_same (value.Addr a) value.Unit e = absurd (false≢true e)
value_same (value.Addr a) value.Null e = absurd (false≢true e)
value_same (value.Addr a) (value.Bool c) e = absurd (false≢true e)
value_same (value.Addr a) (value.Int z) e = absurd (false≢true e)
value_same (value.Addr a) (value.Addr c) e = ap value.Addr (eqb-true a c e)

value_itself : (v : Value) → same_value v v ≡ true
value_itself value.Unit = refl
value_itself value.Null = refl
value_itself (value.Bool true) = refl
value_itself (value.Bool false) = refl
value_itself (value.Int (pos n)) = eq-eqb n n refl
value_itself (value.Int (negsuc n)) = eq-eqb n n refl
value_itself (value.Addr a) = eq-eqb a a refl

pub values_whole : ValuesWhole
values_whole = record { same = value_same; itself = value_itself }
