-- A run, step by step. Assumes nothing.
use Rattle.std.proofs.Common.{◌≡◌, ℕ, suc, ◌+◌, ◌-◌, ◌<◌, ◌≤◌, sym, refl, ap, ◌∙◌, subst, zero-add, arith}
use Rattle.jinja.specs.declared.answer.Answer.{Answer}
use Rattle.jinja.specs.declared.answer.Answer.TheVariants.{Stepped, Finished, Uncaught, FramesFull, Unsound}
use Rattle.jinja.specs.declared.answer.Ran.{Ran}
use Rattle.jinja.specs.Program.{Program}
use Rattle.jinja.specs.State.{State, step, run_on, run}

-- so many steps were answered 0 before
abbrev pub plus : ℕ → Ran × State → Ran × State
plus k o = (record { count = k + o.0.count; last = o.0.last }, o.1)

abbrev ran : ℕ → Answer → Ran
ran n a = record { count = n; last = a }

plus_zero : (o : Ran × State) → plus 0 o ≡ o
plus_zero o = ap (λ n. (ran n o.0.last, o.1)) (zero-add o.0.count)

plus_plus : (j k : ℕ) (o : Ran × State) → plus j (plus k o) ≡ plus (j + k) o
plus_plus j k o = let e : j + (k + o.0.count) ≡ j + k + o.0.count = omega arith in rw e

module _ (P : Program) where
  run_next : (k : ℕ) (s t : State) (a : Answer) → (a, t) ≡ step P s → run P (suc k) s ≡ run_on P a t (run P k t)
  run_next k s t a e = let F : Answer × State → Type 0 = λ p. run_on P (step P s).0 (step P s).1 (run P k (step P s).1) ≡ run_on P p.0 p.1 (run P k p.1) in subst F (sym e) refl

  -- nothing is stepped yet
  pub run_none : (n : ℕ) (s : State) → run P n s ≡ plus 0 (run P (n - 0) s)
  run_none n s = let e : n - 0 ≡ n = omega arith in rw e (sym (plus_zero (run P n s)))

  -- one step more answered 0
  pub run_more : (n i : ℕ) (s t u : State) → i < n → run P n u ≡ plus i (run P (n - i) s) → (Stepped, t) ≡ step P s → run P n u ≡ plus (i + 1) (run P (n - (i + 1)) t)
  run_more n i s t u lt inv e =
      let k : n - i ≡ suc (n - (i + 1)) = omega arith in
      inv ∙ rw (k, run_next (n - (i + 1)) s t Stepped e) (plus_plus i 1 (run P (n - (i + 1)) t))

  -- another answer came
  pub run_stop : (n i : ℕ) (s t u : State) (a : Answer) → i < n → run P n u ≡ plus i (run P (n - i) s) → (a, t) ≡ step P s → (a ≡ Stepped → ⊥) → (ran i a, t) ≡ run P n u
  run_stop n i s t u a lt inv e other =
      let k : n - i ≡ suc (n - (i + 1)) = omega arith in
      let at : run P n u ≡ plus i (run_on P a t (run P (n - (i + 1)) t)) = inv ∙ rw (k, run_next (n - (i + 1)) s t a e) in
      sym (at ∙ stopped a other)
    where
      stopped : (a : Answer) → (a ≡ Stepped → ⊥) → plus i (run_on P a t (run P (n - (i + 1)) t)) ≡ (ran i a, t)
      stopped Stepped o = absurd (o refl)
      stopped Finished o = let z : i + 0 ≡ i = omega arith in rw z
      stopped Uncaught o = let z : i + 0 ≡ i = omega arith in rw z
      stopped FramesFull o = let z : i + 0 ≡ i = omega arith in rw z
      stopped Unsound o = let z : i + 0 ≡ i = omega arith in rw z

  -- all answered 0
  pub run_all : (n i : ℕ) (s u : State) → n ≤ i → i ≤ n → run P n u ≡ plus i (run P (n - i) s) → (ran n Stepped, s) ≡ run P n u
  run_all n i s u le ge inv =
      let k : n - i ≡ 0 = omega arith in
      let z : i + 0 ≡ n = omega arith in
      sym (inv ∙ rw (k, z))

  -- a run of one is a step
  pub run_one : (s t : State) (r : Ran) → (r, t) ≡ run P 1 s → (r.last, t) ≡ step P s
  run_one s t r e = ap last_of e ∙ one (step P s).0
    where
      last_of : Ran × State → Answer × State
      last_of o = (o.0.last, o.1)

      one : (a : Answer) → last_of (run_on P a (step P s).1 (run P 0 (step P s).1)) ≡ (a, (step P s).1)
      one Stepped = refl
      one Finished = refl
      one Uncaught = refl
      one FramesFull = refl
      one Unsound = refl
