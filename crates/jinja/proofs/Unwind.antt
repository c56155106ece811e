-- An exception finds its handler, frame by frame. Assumes nothing.
use Rattle.std.proofs.Common.{◌≡◌, ℕ, Bool, true, false, cond, List, [], ◌∷◌, Some, None, Option, refl, subst, arith}
use Rattle.std.proofs.lemmas.Bool.{lt-ltb, le-leb, ltb-true, leb-true, and_parts}
use Rattle.heap.specs.Meaning.{Meaning}
use Rattle.jinja.specs.declared.ty.Ty.{Ty}
use Rattle.jinja.specs.declared.program.Handler.{Handler}
use Rattle.jinja.specs.Program.{Program}
use Rattle.jinja.specs.Classes.{AtOrBelow}
use Rattle.jinja.specs.Lookups.{Owned}
use Rattle.jinja.specs.WellFormed.{WellFormed}
use Rattle.jinja.specs.Rows.{Cell, Table}
use Rattle.jinja.specs.Order.{cons}
use Rattle.jinja.specs.Handlers.{by_invoke, Covers, In, first, later}
use Rattle.jinja.specs.WellTyping.{Caught, WellTypings}
use Rattle.jinja.specs.Values.{class_of}
use Rattle.jinja.specs.Step.{Frame, Next, catches, catcher, catch, unwind, raise}
use Rattle.jinja.specs.Fits.{address_fits, ObjectsFit, Exceptions, FrameFits, Below, bottom, caller, stand}
use Rattle.jinja.proofs.Options.{conflict, some_inj}
use Rattle.jinja.proofs.Climbs.{below_found}
use Rattle.jinja.proofs.Pairwise.{pairs_length, pairs_lowest}
use Rattle.jinja.proofs.Good.{Good, good_goes, good_threw, bind, guard, frame_at}

pub record Catching (P : Program) (xs : List Handler) (pc c : ℕ) (x : Handler) : Type 0 where
  pub listed : In x xs
  pub covers : Covers x pc
  pub below : AtOrBelow P c x.class

module _ {P : Program} (w : WellFormed P) where
  catches_found : (x : Handler) (pc c : ℕ) → catches P x pc c ≡ true → Covers x pc × AtOrBelow P c x.class
  unfolding catches
  catches_found x pc c e =
      let p = and_parts _ _ e in let q = and_parts _ _ p.0 in (record { from = leb-true _ _ q.0; to = ltb-true _ _ q.1 }, below_found w p.1)

  caught_by : (xs : List Handler) (pc c : ℕ) {x : Handler} → catcher P xs pc c ≡ Some x → Catching P xs pc c x
  caught_by [] pc c e = absurd (conflict e)
  caught_by (y ∷ ys) pc c {x} e = go (catches P y pc c) refl e (caught_by ys pc c)
    where
      go : (b : Bool) → catches P y pc c ≡ b → cond b (Some y) (catcher P ys pc c) ≡ Some x → (catcher P ys pc c ≡ Some x → Catching P ys pc c x) → Catching P (y ∷ ys) pc c x
      go true q e ih = let r = catches_found y pc c q in subst (Catching P (y ∷ ys) pc c) (some_inj e) (record { listed = first; covers = r.0; below = r.1 })
      go false q e ih = let r = ih e in record { listed = later r.listed; covers = r.covers; below = r.below }

  module _ {Φ : ℕ → Table} {h : Meaning} {b : ℕ} (objects : ObjectsFit P h) (exceptions : Exceptions h) (a : ℕ) {c : ℕ} (is : class_of h a ≡ Some c) where
    -- the frame's own handlers, or else the frames below
    catch_good : {f : Frame} {rest : List Frame} {M : Owned} {st : List Ty} {lt : List Cell} {other : Option Next} → FrameFits P Φ h f M st lt → Below P Φ h b f.method rest → ((x : Handler) → Catching P M.method.handlers f.pc c x → Caught P M (Φ f.method) st lt x) → Good P Φ h b other → Good P Φ h b (catch P h a M (catcher P M.method.handlers f.pc c) f rest other)
    catch_good {f} {rest} {M} {st} {lt} {other} fits below caught g = go (catcher P M.method.handlers f.pc c) refl
      where
        go : (o : Option Handler) → catcher P M.method.handlers f.pc c ≡ o → Good P Φ h b (catch P h a M o f rest other)
        go None e = g
        go (Some x) e =
            let found = caught_by M.method.handlers f.pc c e in
            let y = caught x found in
            let n = pairs_length fits.stack_fits in
            guard (le-leb _ _ (omega (arith, y.deep))) (guard (lt-ltb _ _ y.room) (guard (lt-ltb _ _ y.flows.inside)
            (good_goes objects exceptions (stand (frame_at _ fits.method_is y.flows (cons (address_fits is found.below) (pairs_lowest x.depth fits.stack_fits)) fits.registers_fit).2 below))))

    module _ (typed : WellTypings P Φ) where
      unwind_good : {k : ℕ} {fs : List Frame} → Below P Φ h b k fs → Good P Φ h b (unwind P h a c fs)
      unwind_good bottom = good_threw is
      unwind_good (caller fits waits below) =
          bind _ fits.method_is (catch_good fits below (λ x found. ((typed _ _ fits.method_is).each _ _ _ _ waits.at_invoke fits.row_is).caught x found.listed (record { covers = found.covers; throws = by_invoke })) (unwind_good below))

      pub raise_good : {f : Frame} {rest : List Frame} {M : Owned} {st : List Ty} {lt : List Cell} → FrameFits P Φ h f M st lt → Below P Φ h b f.method rest → ((x : Handler) → Catching P M.method.handlers f.pc c x → Caught P M (Φ f.method) st lt x) → Good P Φ h b (raise P h a (f ∷ rest))
      raise_good fits below caught = bind _ is (bind _ fits.method_is (catch_good fits below caught (unwind_good below)))
