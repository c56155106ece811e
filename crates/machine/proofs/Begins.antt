-- A begin, by what it finds. Assumes nothing.
use Rattle.std.proofs.Common.{◌≡◌, ℕ, true, false, List, [], ◌∷◌, length, Some, None, Ok, Err, Result, sym, refl, subst}
use Rattle.heap.specs.declared.value.Value.{Value}
use Rattle.heap.specs.Meaning.{Meaning}
use Rattle.heap.specs.Calls.{after_empty}
use Rattle.format.proofs.WellFormed.{kept_is_well_formed}
use Rattle.jinja.specs.declared.ty.Ty.{Ty}
use Rattle.jinja.specs.declared.answer.Phase.{Phase}
use Rattle.jinja.specs.declared.answer.Phase.TheVariants.{Idle, Running, Finished, Uncaught}
use Rattle.jinja.specs.declared.answer.Outcome.TheVariants.{Nothing}
use Rattle.jinja.specs.declared.answer.Refusal.{Refusal}
use Rattle.jinja.specs.declared.answer.Refusal.TheVariants as refusal
use Rattle.jinja.specs.Program.{Program}
use Rattle.jinja.specs.Lookups.{Owned, method_at, sees}
use Rattle.jinja.specs.Values.{fit_all}
use Rattle.jinja.specs.State.{State}
use Rattle.jinja.specs.Step.{Frame, opened}
use Rattle.jinja.specs.Calls.{begin, begin_in, first_objects, this_at}
use Rattle.jinja.proofs.Inheritance.{inheritance}
use Rattle.jinja.proofs.Pairwise.{pairs_length}
use Rattle.jinja.proofs.Values.{fit_all_found}
use Rattle.tables.specs.declared.tables.Tables.{Tables}
use Rattle.tables.specs.Views.{program_of}
use Rattle.set.specs.declared.set.Set.{Set}
use Rattle.set.specs.Sets.{tables_of, set_program}

-- the method that a set's tables found
pub found : (S : Set) (t : Tables) (c m k : ℕ) → t ≡ tables_of S → Some k ≡ sees (program_of t) c m → (sees (set_program S) c m ≡ Some k) × ((N : Owned) × (method_at (set_program S) k ≡ Some N))
found S t c m k e h =
    let s : sees (set_program S) c m ≡ Some k = subst (λ (x : Tables). sees (program_of x) c m ≡ Some k) e (sym h) in
    let r = (inheritance (set_program S) (kept_is_well_formed (set_program S) S.kept)).seen_above m s in
    (s, (r.0, r.1))

-- arguments that fit are as many as the parameters
pub fit_length : (S : Set) (h : Meaning) (vs : List Value) (ts : List Ty) → fit_all (set_program S) (after_empty h) vs ts ≡ true → length vs ≡ length ts
fit_length S h vs ts e = pairs_length (fit_all_found (kept_is_well_formed (set_program S) S.kept) (after_empty h) vs ts e)

-- a machine that is not idle
pub begin_busy : (P : Program) (c m : ℕ) (args : List Value) (s : State) → (s.phase ≡ Idle → ⊥) → (Err refusal.Busy, s) ≡ begin P c m args s
begin_busy P c m args s n = go s.phase n
  where
    go : (p : Phase) → (p ≡ Idle → ⊥) → (Err refusal.Busy, s) ≡ begin_in P p c m args s
    go Idle n = absurd (n refl)
    go Running n = refl
    go Finished n = refl
    go Uncaught n = refl

-- the state with another heap, and the state of a run that begins
abbrev with_heap : State → Meaning → State
with_heap s h = record { phase = s.phase; frames = s.frames; heap = h; steps = s.steps; outcome = s.outcome; number = s.number }

abbrev begun_with : State → Meaning → List Frame → State
begun_with s h fs = record { phase = Running; frames = fs; heap = h; steps = 0; outcome = Nothing; number = s.number }

-- R is the program by which the method was found
module _ (R P : Program) (q : R ≡ P) {N : Owned} (c m k : ℕ) (args : List Value) (s : State) (i : s.phase ≡ Idle) (e : sees R c m ≡ Some k) (f : method_at R k ≡ Some N) where
  begins : {o : Result ℕ Refusal × State} → o ≡ begin R c m args s → o ≡ begin P c m args s
  begins {o} b = subst (λ (X : Program). o ≡ begin X c m args s) q b

  pub begin_unfit : fit_all R (after_empty s.heap) args N.method.params ≡ false → (Err refusal.Argument, s) ≡ begin P c m args s
  begin_unfit g = begins (rw (i, e, f, g))

  pub begin_full : {h : Meaning} → fit_all R (after_empty s.heap) args N.method.params ≡ true → first_objects R (after_empty s.heap) c ≡ None → h ≡ after_empty s.heap → (Err refusal.NoSpace, with_heap s h) ≡ begin P c m args s
  begin_full g o r = begins (rw (i, e, f, g, o, r))

  pub begin_done : {h : Meaning} {fs : List Frame} → fit_all R (after_empty s.heap) args N.method.params ≡ true → first_objects R (after_empty s.heap) c ≡ Some h → fs ≡ opened N k this_at args ∷ [] → (Ok s.number, begun_with s h fs) ≡ begin P c m args s
  begin_done g o r = begins (rw (i, e, f, g, o, r))
