-- The promise about histories: each call keeps it. Assumes nothing.
use Rattle.std.proofs.Common.{◌≡◌, ℕ, zero, suc, Bool, true, false, cond, eqb, List, [], ◌∷◌, ◌++◌, length, Some, None, Ok, Err, Option, Result, refl, subst, arith}
use mathlib.Core.Path.{subst⁻¹}
use Rattle.std.specs.List.{slice_get, AllByRecursion}
use Rattle.std.proofs.ByRecursion.{All-append}
use Rattle.std.proofs.lemmas.Bool.{cond_both}
use Rattle.heap.specs.declared.value.Value.{Value}
use Rattle.heap.specs.declared.charge.ChargeLine.{ChargeLine}
use Rattle.heap.specs.Meaning.{Meaning, admits}
use Rattle.heap.specs.Calls.{after_empty}
use Rattle.jinja.specs.declared.instr.Instr.{Instr}
use Rattle.jinja.specs.declared.answer.Answer.{Answer}
use Rattle.jinja.specs.declared.answer.Answer.TheVariants as answer
use Rattle.jinja.specs.declared.answer.Refusal.{Refusal}
use Rattle.jinja.specs.declared.answer.Refusal.TheVariants as refusal
use Rattle.jinja.specs.declared.answer.Phase.{Phase}
use Rattle.jinja.specs.declared.answer.Phase.TheVariants.{Idle, Running, Finished, Uncaught}
use Rattle.jinja.specs.declared.answer.Outcome.{Outcome}
use Rattle.jinja.specs.declared.answer.Ended.{Ended}
use Rattle.jinja.specs.declared.answer.Ran.{Ran}
use Rattle.jinja.specs.Answers.{answer_number}
use Rattle.jinja.specs.Options.{◌>>=◌}
use Rattle.jinja.specs.Program.{Program}
use Rattle.jinja.specs.Classes.{maybe}
use Rattle.jinja.specs.Lookups.{Owned, method_at, sees}
use Rattle.jinja.specs.WellFormed.{WellFormed}
use Rattle.jinja.specs.Rows.{Table}
use Rattle.jinja.specs.Handlers.{null_pointer, class_cast, out_of_memory}
use Rattle.jinja.specs.WellTyping.{WellTypings}
use Rattle.jinja.specs.Values.{fit_all, start_row}
use Rattle.jinja.specs.Step.{Frame, Next, exec, next_step}
use Rattle.jinja.specs.State.{State, made, settled, step_in, step, run_on, run}
use Rattle.jinja.specs.Calls.{begun, emptied, add_object, first_objects, begin_with, begin_seen, begin_in, unless_idle, end_in, Call, begins, steps, runs, ends, perform}
use Rattle.jinja.specs.Fits.{PhaseFits, idle_fits, running_fits, finished_fits, uncaught_fits, StateFits}
use Rattle.jinja.specs.History.{if_stepped, if_awake, Event, after, run_answers, call_answers, step_answers, instr_at, step_events, run_events, begin_events, call_events, events, objects_made}
use Rattle.jinja.specs.History.{empties, opens, does}
use Rattle.jinja.specs.Promise.{FramesFit, no_frames, frames_stand, Promise, HistoriesKeep, TypableHistoriesKeep}
use Rattle.jinja.proofs.Options.{conflict, some_inj, all_nth}
use Rattle.jinja.proofs.Bridge.{passed, tested}
use Rattle.jinja.proofs.LeastTyping.{least_typings}
use Rattle.jinja.proofs.Safety.{step_kept, type_safety}
use Rattle.jinja.proofs.Counted.{Counted, used_is, counted_empty, counted_add}
use Rattle.jinja.proofs.Moves.{After, moves, returns, throws, fills, exec_after}

made_append : (P : Program) (ls : List ChargeLine) (es fs : List Event) (cs : List ℕ) → objects_made P ls (es ++ fs) cs ≡ objects_made P ls fs (objects_made P ls es cs)
made_append P ls [] fs cs = refl
made_append P ls (empties ∷ es) fs cs = made_append P ls es fs []
made_append P ls (opens c ∷ es) fs cs = made_append P ls es fs _
made_append P ls (does i ∷ es) fs cs = made_append P ls es fs _

module _ {P : Program} (w : WellFormed P) (ls : List ChargeLine) where
  -- the heap after a call holds what was made
  abbrev Holds : List Event → List ℕ → Meaning → Type 0
  Holds es cs h = Counted P ls h (objects_made P ls es cs)

  next_after : {h : Meaning} {cs : List ℕ} {n : Next} (fs : List Frame) → Counted P ls h cs → next_step P h fs ≡ Some n → After (Holds (maybe (instr_at P fs) [] (λ i. does i ∷ [])) cs) h n
  next_after [] k e = absurd (conflict e)
  next_after {h} {cs} {n} (f ∷ rest) k e = at_method (method_at P f.method) refl e
    where
      at_instr : (M : Owned) (o : Option Instr) → (o >>= λ i. exec P i h M f rest) ≡ Some n → After (Holds (maybe o [] (λ i. does i ∷ [])) cs) h n
      at_instr M None e = absurd (conflict e)
      at_instr M (Some i) e = exec_after w k i f.method f.pc M f.stack f.registers rest e

      at_method : (o : Option Owned) → method_at P f.method ≡ o → (o >>= λ M. slice_get M.method.code f.pc >>= λ i. exec P i h M f rest) ≡ Some n → After (Holds (maybe (o >>= λ M. slice_get M.method.code f.pc) [] (λ i. does i ∷ [])) cs) h n
      at_method None q e = absurd (conflict e)
      at_method (Some M) q e = at_instr M (slice_get M.method.code f.pc) e

  settled_holds : {cs : List ℕ} (s : State) (es : List Event) (o : Option Next) → Counted P ls s.heap cs → ((n : Next) → o ≡ Some n → After (Holds es cs) s.heap n) → Holds (if_stepped (settled s o).0 es) cs (settled s o).1.heap
  settled_holds s es None k f = k
  settled_holds {cs} s es (Some n) k f = at n (f n refl)
    where
      at : (n : Next) → After (Holds es cs) s.heap n → Holds (if_stepped (settled s (Some n)).0 es) cs (settled s (Some n)).1.heap
      at _ (moves x) = x
      at _ (returns x) = x
      at _ (throws x) = x
      at _ fills = k

  step_holds_in : {cs : List ℕ} (p : Phase) (s : State) → Counted P ls s.heap cs → Holds (if_stepped (step_in P p s).0 (maybe (instr_at P s.frames) [] (λ i. does i ∷ []))) cs (step_in P p s).1.heap
  step_holds_in Idle s k = k
  step_holds_in Running s k = settled_holds s _ (next_step P s.heap s.frames) k (λ n e. next_after s.frames k e)
  step_holds_in Finished s k = k
  step_holds_in Uncaught s k = k

  step_holds : {cs : List ℕ} (s : State) → Counted P ls s.heap cs → Holds (step_events P s) cs (step P s).1.heap
  step_holds s k = step_holds_in s.phase s k

  run_on_holds : (cs : List ℕ) (x : Answer) (t : State) (o : Ran × State) (es fs : List Event) → Holds es cs t.heap → (Holds es cs t.heap → Holds (es ++ fs) cs o.1.heap) → Holds (es ++ if_stepped x fs) cs (run_on P x t o).1.heap
  run_on_holds cs answer.Stepped t o es fs k f = f k
  run_on_holds cs answer.Finished t o es fs k f = subst⁻¹ (λ ds. Counted P ls t.heap ds) (made_append P ls es [] cs) k
  run_on_holds cs answer.Uncaught t o es fs k f = subst⁻¹ (λ ds. Counted P ls t.heap ds) (made_append P ls es [] cs) k
  run_on_holds cs answer.FramesFull t o es fs k f = subst⁻¹ (λ ds. Counted P ls t.heap ds) (made_append P ls es [] cs) k
  run_on_holds cs answer.Unsound t o es fs k f = subst⁻¹ (λ ds. Counted P ls t.heap ds) (made_append P ls es [] cs) k

  run_holds : (n : ℕ) (s : State) {cs : List ℕ} → Counted P ls s.heap cs → Holds (run_events P n s) cs (run P n s).1.heap
  run_holds zero s k = k
  run_holds (suc n) s {cs} k =
      run_on_holds cs (step P s).0 (step P s).1 (run P n (step P s).1) (step_events P s) (run_events P n (step P s).1) (step_holds s k)
      (λ x. subst⁻¹ (λ ds. Counted P ls (run P n (step P s).1).1.heap ds) (made_append P ls (step_events P s) (run_events P n (step P s).1) cs) (run_holds n (step P s).1 x))

  -- begin leaves the four objects, or none
  first_counted : {h : Meaning} (l : Meaning) (c : ℕ) → l.lines ≡ ls → first_objects P (after_empty l) c ≡ Some h → Counted P ls h (null_pointer ∷ class_cast ∷ out_of_memory ∷ c ∷ [])
  first_counted l c q e =
      let a = passed (add_object P (after_empty l) null_pointer) _ e in
      let b = passed (add_object P a.0 class_cast) _ a.2 in
      let d = passed (add_object P b.0 out_of_memory) _ b.2 in
      let k1 = added null_pointer (counted_empty l q) a.1 in
      let k2 = added class_cast k1 b.1 in
      let k3 = added out_of_memory k2 d.1 in
      added c k3 d.2
    where
      added : {h h' : Meaning} {cs : List ℕ} (c : ℕ) → Counted P ls h cs → add_object P h c ≡ Some h' → Counted P ls h' (cs ++ c ∷ [])
      added {h} {cs = cs} c k e = let t = tested (admits h (length (start_row P c))) _ e in subst (λ h. Counted P ls h (cs ++ c ∷ [])) (some_inj t.1) (counted_add c k t.0)

  abbrev Begun : ℕ → List ℕ → Result ℕ Refusal × State → Type 0
  Begun c cs r = Holds (begin_events c r.0) cs r.1.heap

  begin_with_holds : {cs : List ℕ} (c k : ℕ) (args : List Value) (N : Owned) (s : State) → Counted P ls s.heap cs → Begun c cs (begin_with P c args k N s)
  begin_with_holds {cs} c k args N s count = go (fit_all P (after_empty s.heap) args N.method.params) (first_objects P (after_empty s.heap) c) refl
    where
      go : (t : Bool) (o : Option Meaning) → first_objects P (after_empty s.heap) c ≡ o → Begun c cs (cond t (maybe o (Err refusal.NoSpace, emptied s) (λ h. (Ok s.number, begun s h N k args))) (Err refusal.Argument, s))
      go false o e = count
      go true None e = counted_empty s.heap count.lines_are
      go true (Some h) e = first_counted s.heap c count.lines_are e

  begin_seen_holds : {cs : List ℕ} (c : ℕ) (args : List Value) (o : Option ℕ) (s : State) → Counted P ls s.heap cs → Begun c cs (begin_seen P c args o s)
  begin_seen_holds c args None s count = count
  begin_seen_holds {cs} c args (Some k) s count = go (method_at P k)
    where
      go : (o : Option Owned) → Begun c cs (maybe o (Err refusal.Unseen, s) (λ N. begin_with P c args k N s))
      go None = count
      go (Some N) = begin_with_holds c k args N s count

  begin_holds : {cs : List ℕ} (p : Phase) (c m : ℕ) (args : List Value) (s : State) → Counted P ls s.heap cs → Begun c cs (begin_in P p c m args s)
  begin_holds Idle c m args s count = begin_seen_holds c args (sees P c m) s count
  begin_holds Running c m args s count = count
  begin_holds Finished c m args s count = count
  begin_holds Uncaught c m args s count = count

  -- what an idle machine refuses changes nothing
  awake_holds : {A : Type 0} {cs : List ℕ} (es : List Event) (p : Phase) (s : State) (o : A × State) → Counted P ls s.heap cs → Holds es cs o.1.heap → Holds (if_awake p es) cs (unless_idle P p s o).1.heap
  awake_holds es Idle s o count k = count
  awake_holds es Running s o count k = k
  awake_holds es Finished s o count k = k
  awake_holds es Uncaught s o count k = k

  end_holds : {cs : List ℕ} (p : Phase) (t : ℕ) (s : State) → Counted P ls s.heap cs → Counted P ls (end_in P p t s).1.heap cs
  end_holds Idle t s k = k
  end_holds {cs} Running t s k = cond_both (eqb t s.number) _ _ (λ (o : Result Ended Refusal × State). Counted P ls o.1.heap cs) (λ e. k) (λ e. k)
  end_holds {cs} Finished t s k = cond_both (eqb t s.number) _ _ (λ (o : Result Ended Refusal × State). Counted P ls o.1.heap cs) (λ e. k) (λ e. k)
  end_holds {cs} Uncaught t s k = cond_both (eqb t s.number) _ _ (λ (o : Result Ended Refusal × State). Counted P ls o.1.heap cs) (λ e. k) (λ e. k)

  call_holds : {cs : List ℕ} (c : Call) (s : State) → Counted P ls s.heap cs → Holds (call_events P c s) cs (perform P c s).1.heap
  call_holds (begins c m args) s k = begin_holds s.phase c m args s k
  call_holds steps s k = awake_holds (step_events P s) s.phase s (step P s) k (step_holds s k)
  call_holds (runs n) s k = awake_holds (run_events P n s) s.phase s (run P n s) k (run_holds n s k)
  call_holds (ends t) s k = end_holds s.phase t s k

  history_holds : (calls : List Call) (s : State) {cs : List ℕ} → Counted P ls s.heap cs → Holds (events P calls s) cs (after P calls s).heap
  history_holds [] s k = k
  history_holds (c ∷ calls) s {cs} k =
      subst⁻¹ (λ ds. Counted P ls (after P calls (perform P c s).1).heap ds) (made_append P ls (call_events P c s) (events P calls (perform P c s).1) cs) (history_holds calls (perform P c s).1 (call_holds c s k))

abbrev Sound : Answer → Type 0
Sound x = x ≡ answer.Unsound → ⊥

run_on_sound : (x : Answer) (xs : List Answer) → Sound x → AllByRecursion Sound xs → AllByRecursion Sound (x ∷ if_stepped x xs)
run_on_sound answer.Stepped xs k r = (k, r)
run_on_sound answer.Finished xs k r = (k, tt)
run_on_sound answer.Uncaught xs k r = (k, tt)
run_on_sound answer.FramesFull xs k r = (k, tt)
run_on_sound answer.Unsound xs k r = (k, tt)

not_running : Running ≡ Idle → ⊥
not_running e = let z : ◌≡◌ {A = ℕ} 0 1 = cc in omega arith

not_finished : Finished ≡ Idle → ⊥
not_finished e = let z : ◌≡◌ {A = ℕ} 0 1 = cc in omega arith

not_uncaught : Uncaught ≡ Idle → ⊥
not_uncaught e = let z : ◌≡◌ {A = ℕ} 0 1 = cc in omega arith

awake_all : {A : Type 0} (Q : A → Type 0) (p : Phase) (xs : List A) → ((p ≡ Idle → ⊥) → AllByRecursion Q xs) → AllByRecursion Q (if_awake p xs)
awake_all Q Idle xs f = tt
awake_all Q Running xs f = f not_running
awake_all Q Finished xs f = f not_finished
awake_all Q Uncaught xs f = f not_uncaught

awake_fits : {P : Program} {Φ : ℕ → Table} {A : Type 0} {b : ℕ} (p : Phase) (s : State) (o : A × State) → StateFits P Φ b s → ((p ≡ Idle → ⊥) → StateFits P Φ b o.1) → StateFits P Φ b (unless_idle P p s o).1
awake_fits Idle s o fits f = fits
awake_fits Running s o fits f = f not_running
awake_fits Finished s o fits f = f not_finished
awake_fits Uncaught s o fits f = f not_uncaught

module _ {P : Program} {Φ : ℕ → Table} (w : WellFormed P) (typed : WellTypings P Φ) where
  run_sound : {b : ℕ} (n : ℕ) (s : State) → StateFits P Φ b s → (s.phase ≡ Idle → ⊥) → AllByRecursion Sound (run_answers P n s)
  run_sound zero s fits awake = tt
  run_sound (suc n) s fits awake =
      let k = step_kept w typed s fits awake in run_on_sound (step P s).0 (run_answers P n (step P s).1) k.sound (run_sound n (step P s).1 k.fits k.awake)

  call_sound : {b : ℕ} (c : Call) (s : State) → StateFits P Φ b s → AllByRecursion Sound (call_answers P c s)
  call_sound (begins c m args) s fits = tt
  call_sound steps s fits = awake_all Sound s.phase _ (λ awake. ((step_kept w typed s fits awake).sound, tt))
  call_sound (runs n) s fits = awake_all Sound s.phase _ (λ awake. run_sound n s fits awake)
  call_sound (ends t) s fits = tt

  call_fits : {b : ℕ} (c : Call) (s : State) → StateFits P Φ b s → (k : ℕ) × StateFits P Φ k (perform P c s).1
  call_fits (begins c m args) s fits = let r = (type_safety P w Φ typed).beginning c m args fits in (r.0, r.1)
  call_fits {b} steps s fits = (b, awake_fits s.phase s (step P s) fits (λ awake. ((type_safety P w Φ typed).stepping fits awake).1))
  call_fits {b} (runs n) s fits = (b, awake_fits s.phase s (run P n s) fits (λ awake. ((type_safety P w Φ typed).running n fits awake).1))
  call_fits {b} (ends t) s fits = (b, (type_safety P w Φ typed).ending t fits)

  history_fits : (calls : List Call) (s : State) {b : ℕ} → StateFits P Φ b s → (k : ℕ) × StateFits P Φ k (after P calls s)
  history_fits [] s {b} fits = (b, fits)
  history_fits (c ∷ calls) s fits = let r = call_fits c s fits in history_fits calls (perform P c s).1 r.1

  history_sound : (calls : List Call) (s : State) {b : ℕ} → StateFits P Φ b s → AllByRecursion Sound (step_answers P calls s)
  history_sound [] s fits = tt
  history_sound (c ∷ calls) s fits = let r = call_fits c s fits in All-append Sound (call_answers P c s) (step_answers P calls (perform P c s).1) (call_sound c s fits) (history_sound calls (perform P c s).1 r.1)

  frames_of : {h : Meaning} {b : ℕ} {p : Phase} {fs : List Frame} {o : Outcome} → PhaseFits P Φ h b p fs o → FramesFit P Φ h fs
  frames_of idle_fits = no_frames
  frames_of (running_fits x st) = frames_stand x st
  frames_of (finished_fits m f) = no_frames
  frames_of (uncaught_fits is) = no_frames

unsound_is : (x : Answer) → answer_number x ≡ 4 → x ≡ answer.Unsound
unsound_is answer.Stepped e = absurd (omega arith)
unsound_is answer.Finished e = absurd (omega arith)
unsound_is answer.Uncaught e = absurd (omega arith)
unsound_is answer.FramesFull e = absurd (omega arith)
unsound_is answer.Unsound e = refl

-- over any well-typings
pub promise_kept : {P : Program} {Φ : ℕ → Table} → WellFormed P → WellTypings P Φ → (h : Meaning) (number : ℕ) (calls : List Call) → Promise P Φ h number calls
promise_kept {P} {Φ} w typed h number calls =
    let first = (type_safety P w Φ typed).making h number 0 in
    let fits = history_fits w typed calls (made h number) first in
    let count = history_holds w h.lines calls (made h number) (counted_empty h refl) in
    record {
      sound = λ i x e n. all_nth Sound (step_answers P calls (made h number)) i (history_sound w typed calls (made h number) first) e (unsound_is x n);
      frames_fit = frames_of w typed fits.1.phase_fits;
      objects_fit = fits.1.objects_fit;
      lines_stay = count.lines_are;
      charged = λ i l e. record { use_is_cost = used_is l count.objects_are; within_total = count.within i l e };
    }

pub histories_keep : HistoriesKeep
histories_keep P w Φ least = promise_kept w (λ k M e. (least k M e).typing)

pub typable_histories_keep : TypableHistoriesKeep
typable_histories_keep P w Φ typed =
    let t = least_typings w Φ typed in record { typings = t.0; least = t.1; promise = promise_kept w (λ k M e. (t.1 k M e).typing) }
