-- Each instruction, from a frame that fits: no check fails, and what comes fits. Assumes nothing.
use Rattle.std.proofs.Common.{◌≡◌, ℕ, suc, List, ◌∷◌, length, ℤ, Some, ap, ◌∙◌, arith}
use Rattle.std.specs.List.{slice_get}
use Rattle.std.proofs.lemmas.Bool.{lt-ltb, cond_both}
use Rattle.heap.specs.declared.value.Value.{Value}
use Rattle.heap.specs.Meaning.{Meaning, admits}
use Rattle.jinja.specs.declared.ty.Ty.{Ty}
use Rattle.jinja.specs.declared.instr.Literal.{Literal}
use Rattle.jinja.specs.declared.instr.Instr.{Instr}
use Rattle.jinja.specs.declared.instr.Instr.TheVariants.{Load, Store, Push, Pop, New, Getfield, Putfield, Checkcast, IAdd, CmpEq, IfFalse, Goto, Throw}
use Rattle.jinja.specs.declared.program.Field.{Field}
use Rattle.jinja.specs.declared.program.FieldPlace.{FieldPlace}
use Rattle.jinja.specs.declared.program.Handler.{Handler}
use Rattle.jinja.specs.Program.{Program}
use Rattle.jinja.specs.Classes.{AtOrBelow, here, at_or_below}
use Rattle.jinja.specs.Lookups.{Owned, own_field, method_at}
use Rattle.jinja.specs.WellFormed.{WellFormed}
use Rattle.jinja.specs.Rows.{Cell, usable, Table}
use Rattle.jinja.specs.Order.{cons, null_reference, class_reference}
use Rattle.jinja.specs.Rule.{Edge, Rule, load, store, push, pop, new, getfield, putfield, checkcast, iadd, cmpeq, cmpeq_references, iffalse, goto, throw}
use Rattle.jinja.specs.Handlers.{MayThrow, by_throw, by_getfield, by_putfield, by_checkcast, by_new, Relevant, In}
use Rattle.jinja.specs.WellTyping.{Flows, FlowAll, no_more, flow, Caught, WellTypings}
use Rattle.jinja.specs.Values.{class_of, start_row}
use Rattle.jinja.specs.Step.{Frame, null_pointer_at, class_cast_at, out_of_memory_at, goes, raise, exec}
use Rattle.jinja.specs.Fits.{Fits, null_fits, null_fits_class, boolean_fits, integer_fits, address_fits, FitAll, FitsCell, fits_usable, FitCells, field_types, ObjectsFit, Exceptions, Below, stand}
use Rattle.jinja.proofs.Options.{nth_map}
use Rattle.jinja.proofs.Climbs.{below_tested, below_found}
use Rattle.jinja.proofs.Inheritance.{inheritance}
use Rattle.jinja.proofs.Pairwise.{pairs_length, shorter, pairs_nth, pairs_set}
use Rattle.jinja.proofs.Values.{fit_up, all_grow, cells_grow, literal_fits, fits_tested}
use Rattle.jinja.proofs.Objects.{class_object, grows_add, class_new, grows_write, exceptions_grow, objects_written, objects_added}
use Rattle.jinja.proofs.Good.{Good, good_goes, Now, bind, guard, either, deref, frame_at, below_grow}
use Rattle.jinja.proofs.Unwind.{raise_good}
use Rattle.std.proofs.lemmas.Option.{slice_get_within}

abbrev pub frame : ℕ → ℕ → List Value → List Value → Frame
frame k pc stk regs = record { method = k; pc = pc; stack = stk; registers = regs }

-- what the typing says of the handlers of an instruction
abbrev pub Handled : Program → (ℕ → Table) → Owned → ℕ → ℕ → List Ty → List Cell → Instr → Type 0
Handled P Φ M k pc st lt i = (x : Handler) → In x M.method.handlers → Relevant P i pc x → Caught P M (Φ k) st lt x

module _ {P : Program} where
  usable_fits : {h : Meaning} {v : Value} {t : Ty} → FitsCell P h v (usable t) → Fits P h v t
  usable_fits (fits_usable f) = f

  -- the place of an own field in an object of a class at or below
  field_placed : {x : FieldPlace} {e : ℕ} (w : WellFormed P) (c f : ℕ) → own_field P c f ≡ Some x → AtOrBelow P e c → slice_get (field_types P e) x.place ≡ Some x.ty
  field_placed {x} {e} w c f q s =
      let i = inheritance P w in
      let g = i.own_place c f q in
      nth_map (λ (f : Field). f.ty) _ x.place (i.fields x.place s g.1) ∙ ap Some g.2

-- the frame goes on at a place to which its row flows
pub arrives : {P : Program} {Φ : ℕ → Table} {h h' : Meaning} {b : ℕ} {f : Frame} {rest : List Frame} {M : Owned} {st : List Ty} {lt : List Cell} → method_at P f.method ≡ Some M → Below P Φ h' b f.method rest → ObjectsFit P h' → Exceptions h' → Flows P M (Φ f.method) f.pc st lt → FitAll P h' f.stack st → FitCells P h' f.registers lt → Good P Φ h b (Some (goes h' (f ∷ rest)))
arrives {f = f} m below objects exceptions fl s r = good_goes objects exceptions (stand (frame_at f m fl s r).2 below)

module _ {P : Program} {Φ : ℕ → Table} {h : Meaning} {b k pc : ℕ} {M : Owned} {regs : List Value} {rest : List Frame} where
  -- the same heap and the same method
  goes_on : {stk stk' regs' : List Value} {st st' : List Ty} {lt lt' : List Cell} {q : ℕ} → Now P Φ h b (frame k pc stk regs) rest M st lt → Flows P M (Φ k) q st' lt' → FitAll P h stk' st' → FitCells P h regs' lt' → Good P Φ h b (Some (goes h (frame k q stk' regs' ∷ rest)))
  goes_on now fl s r = arrives now.frame_fits.method_is now.below now.objects now.exceptions fl s r

  pub load_good : {stk : List Value} {st : List Ty} {lt : List Cell} {es : List Edge} (n : ℕ) → Now P Φ h b (frame k pc stk regs) rest M st lt → Rule P M (Load n) pc st lt es → FlowAll P M (Φ k) es → FitAll P h stk st → FitCells P h regs lt → Good P Φ h b (exec P (Load n) h M (frame k pc stk regs) rest)
  load_good n now (load e room) (flow fl no_more) s r = let v = pairs_nth n r e in bind _ v.1 (guard (lt-ltb _ _ (shorter _ s room)) (goes_on now fl (cons (usable_fits v.2) s) r))

  pub store_good : {stk : List Value} {st : List Ty} {lt : List Cell} {es : List Edge} (n : ℕ) → Now P Φ h b (frame k pc stk regs) rest M st lt → Rule P M (Store n) pc st lt es → FlowAll P M (Φ k) es → FitAll P h stk st → FitCells P h regs lt → Good P Φ h b (exec P (Store n) h M (frame k pc stk regs) rest)
  store_good n now (store l) (flow fl no_more) (cons f s) r = let e = pairs_length r in guard (lt-ltb _ _ (omega arith)) (goes_on now fl s (pairs_set n r (fits_usable f)))

  pub push_good : {stk : List Value} {st : List Ty} {lt : List Cell} {es : List Edge} (v : Literal) → Now P Φ h b (frame k pc stk regs) rest M st lt → Rule P M (Push v) pc st lt es → FlowAll P M (Φ k) es → FitAll P h stk st → FitCells P h regs lt → Good P Φ h b (exec P (Push v) h M (frame k pc stk regs) rest)
  push_good v now (push room) (flow fl no_more) s r = guard (lt-ltb _ _ (shorter _ s room)) (goes_on now fl (cons (literal_fits v) s) r)

  pub pop_good : {stk : List Value} {st : List Ty} {lt : List Cell} {es : List Edge} → Now P Φ h b (frame k pc stk regs) rest M st lt → Rule P M Pop pc st lt es → FlowAll P M (Φ k) es → FitAll P h stk st → FitCells P h regs lt → Good P Φ h b (exec P Pop h M (frame k pc stk regs) rest)
  pop_good now pop (flow fl no_more) (cons f s) r = goes_on now fl s r

  pub iadd_good : {stk : List Value} {st : List Ty} {lt : List Cell} {es : List Edge} → Now P Φ h b (frame k pc stk regs) rest M st lt → Rule P M IAdd pc st lt es → FlowAll P M (Φ k) es → FitAll P h stk st → FitCells P h regs lt → Good P Φ h b (exec P IAdd h M (frame k pc stk regs) rest)
  iadd_good now (iadd room) (flow fl no_more) (cons integer_fits (cons integer_fits s)) r = guard (lt-ltb _ _ (shorter _ s room)) (goes_on now fl (cons integer_fits s) r)

  pub cmpeq_good : {stk : List Value} {st : List Ty} {lt : List Cell} {es : List Edge} → Now P Φ h b (frame k pc stk regs) rest M st lt → Rule P M CmpEq pc st lt es → FlowAll P M (Φ k) es → FitAll P h stk st → FitCells P h regs lt → Good P Φ h b (exec P CmpEq h M (frame k pc stk regs) rest)
  cmpeq_good now (cmpeq room) (flow fl no_more) (cons f (cons g s)) r = guard (lt-ltb _ _ (shorter _ s room)) (goes_on now fl (cons boolean_fits s) r)
  cmpeq_good now (cmpeq_references x y room) (flow fl no_more) (cons f (cons g s)) r = guard (lt-ltb _ _ (shorter _ s room)) (goes_on now fl (cons boolean_fits s) r)

  pub goto_good : {stk : List Value} {st : List Ty} {lt : List Cell} {es : List Edge} (z : ℤ) → Now P Φ h b (frame k pc stk regs) rest M st lt → Rule P M (Goto z) pc st lt es → FlowAll P M (Φ k) es → FitAll P h stk st → FitCells P h regs lt → Good P Φ h b (exec P (Goto z) h M (frame k pc stk regs) rest)
  goto_good z now (goto e) (flow fl no_more) s r = bind _ e (guard (lt-ltb _ _ fl.inside) (goes_on now fl s r))

  pub iffalse_good : {stk : List Value} {st : List Ty} {lt : List Cell} {es : List Edge} (z : ℤ) → Now P Φ h b (frame k pc stk regs) rest M st lt → Rule P M (IfFalse z) pc st lt es → FlowAll P M (Φ k) es → FitAll P h stk st → FitCells P h regs lt → Good P Φ h b (exec P (IfFalse z) h M (frame k pc stk regs) rest)
  iffalse_good {lt = lt} z now (iffalse {q = q} {st = st} e) (flow fl (flow fl' no_more)) (cons (boolean_fits {b = t}) s) r =
      bind _ e (guard (lt-ltb _ _ fl'.inside) (goes_on now (cond_both t (suc pc) q (λ p. Flows P M (Φ k) p st lt) (λ x. fl) (λ x. fl')) s r))

module _ {P : Program} {Φ : ℕ → Table} (w : WellFormed P) (typed : WellTypings P Φ) {h : Meaning} {b k pc : ℕ} {M : Owned} {regs : List Value} {rest : List Frame} where
  -- what is thrown is caught by a handler that the typing reckons with, or goes to the frames below
  pub raises : {stk : List Value} {st : List Ty} {lt : List Cell} (i : Instr) (a : ℕ) {c : ℕ} → class_of h a ≡ Some c → Now P Φ h b (frame k pc stk regs) rest M st lt → Handled P Φ M k pc st lt i → ((d : ℕ) → AtOrBelow P c d → MayThrow P i d) → Good P Φ h b (raise P h a (frame k pc stk regs ∷ rest))
  raises i a is now handled may =
      raise_good w now.objects now.exceptions a is typed now.frame_fits now.below (λ x y. handled x y.listed (record { covers = y.covers; throws = may x.class y.below }))

  pub throw_good : {stk : List Value} {st : List Ty} {lt : List Cell} {es : List Edge} → Now P Φ h b (frame k pc stk regs) rest M st lt → Rule P M Throw pc st lt es → FitAll P h stk st → Handled P Φ M k pc st lt Throw → Good P Φ h b (exec P Throw h M (frame k pc stk regs) rest)
  throw_good now (throw null_reference) (cons null_fits s) c = raises Throw null_pointer_at now.exceptions.at_0 now c (λ d l. by_throw)
  throw_good now (throw class_reference) (cons (null_fits_class i) s) c = raises Throw null_pointer_at now.exceptions.at_0 now c (λ d l. by_throw)
  throw_good now (throw class_reference) (cons (address_fits {a = a} e l) s) c = raises Throw a e now c (λ d l. by_throw)

  pub new_good : {stk : List Value} {st : List Ty} {lt : List Cell} {es : List Edge} (c : ℕ) → Now P Φ h b (frame k pc stk regs) rest M st lt → Rule P M (New c) pc st lt es → FlowAll P M (Φ k) es → FitAll P h stk st → FitCells P h regs lt → Handled P Φ M k pc st lt (New c) → Good P Φ h b (exec P (New c) h M (frame k pc stk regs) rest)
  new_good {stk} c now (new i room) (flow fl no_more) s r handled =
      let g = grows_add h c (start_row P c) in
      guard (lt-ltb _ _ i) (guard (lt-ltb _ _ (shorter _ s room)) (either (admits h (length (start_row P c)))
      (λ t. arrives now.frame_fits.method_is (below_grow g now.below) (objects_added w c i now.objects) (exceptions_grow g now.exceptions) fl (cons (address_fits (class_new h c (start_row P c)) (here i)) (all_grow g s)) (cells_grow g r))
      (λ t. raises (New c) out_of_memory_at now.exceptions.at_2 now handled (λ d l. by_new l))))

  pub getfield_good : {stk : List Value} {st : List Ty} {lt : List Cell} {es : List Edge} (n c : ℕ) → Now P Φ h b (frame k pc stk regs) rest M st lt → Rule P M (Getfield n c) pc st lt es → FlowAll P M (Φ k) es → FitAll P h stk st → FitCells P h regs lt → Handled P Φ M k pc st lt (Getfield n c) → Good P Φ h b (exec P (Getfield n c) h M (frame k pc stk regs) rest)
  getfield_good n c now (getfield {x = x} e l room) (flow fl no_more) (cons f s) r handled =
      bind _ e (guard (lt-ltb _ _ (shorter _ s room)) (deref _ _ (fit_up f l)
      (raises (Getfield n c) null_pointer_at now.exceptions.at_0 now handled (λ d l. by_getfield l))
      (λ a d is cl below.
      let o = class_object h a cl in
      let below' : AtOrBelow P o.0.class c = rw o.2 below in
      let v = pairs_nth x.place (now.objects.each a o.0 o.1).row_fits (field_placed w c n e below') in
      bind _ o.1 (guard (below_tested w below') (bind _ v.1 (guard (fits_tested w v.2) (goes_on now fl (cons v.2 s) r)))))))

  pub putfield_good : {stk : List Value} {st : List Ty} {lt : List Cell} {es : List Edge} (n c : ℕ) → Now P Φ h b (frame k pc stk regs) rest M st lt → Rule P M (Putfield n c) pc st lt es → FlowAll P M (Φ k) es → FitAll P h stk st → FitCells P h regs lt → Handled P Φ M k pc st lt (Putfield n c) → Good P Φ h b (exec P (Putfield n c) h M (frame k pc stk regs) rest)
  putfield_good n c now (putfield {x = x} e lv lu) (flow fl no_more) (cons {a = v} fv (cons fu s)) r handled =
      bind _ e (guard (fits_tested w (fit_up fv lv)) (deref _ _ (fit_up fu lu)
      (raises (Putfield n c) null_pointer_at now.exceptions.at_0 now handled (λ d l. by_putfield l))
      (λ a d is cl below.
      let o = class_object h a cl in
      let below' : AtOrBelow P o.0.class c = rw o.2 below in
      let t = field_placed w c n e below' in
      let old = pairs_nth x.place (now.objects.each a o.0 o.1).row_fits t in
      let g = grows_write h a x.place v o.1 in
      bind _ o.1 (guard (below_tested w below') (guard (lt-ltb _ _ (slice_get_within _ x.place _ old.1))
      (arrives now.frame_fits.method_is (below_grow g now.below) (objects_written a x.place now.objects o.1 t (fit_up fv lv)) (exceptions_grow g now.exceptions) fl (all_grow g s) (cells_grow g r)))))))

  pub checkcast_good : {stk : List Value} {st : List Ty} {lt : List Cell} {es : List Edge} (c : ℕ) → Now P Φ h b (frame k pc stk regs) rest M st lt → Rule P M (Checkcast c) pc st lt es → FlowAll P M (Φ k) es → FitAll P h stk st → FitCells P h regs lt → Handled P Φ M k pc st lt (Checkcast c) → Good P Φ h b (exec P (Checkcast c) h M (frame k pc stk regs) rest)
  checkcast_good c now (checkcast null_reference i room) (flow fl no_more) (cons null_fits s) r handled = guard (lt-ltb _ _ i) (guard (lt-ltb _ _ (shorter _ s room)) (goes_on now fl (cons (null_fits_class i) s) r))
  checkcast_good c now (checkcast class_reference i room) (flow fl no_more) (cons (null_fits_class j) s) r handled = guard (lt-ltb _ _ i) (guard (lt-ltb _ _ (shorter _ s room)) (goes_on now fl (cons (null_fits_class i) s) r))
  checkcast_good c now (checkcast class_reference i room) (flow fl no_more) (cons (address_fits {c = d} cl below) s) r handled =
      guard (lt-ltb _ _ i) (guard (lt-ltb _ _ (shorter _ s room)) (bind _ cl (either (at_or_below P d c)
      (λ t. goes_on now fl (cons (address_fits cl (below_found w t)) s) r)
      (λ t. raises (Checkcast c) class_cast_at now.exceptions.at_1 now handled (λ d l. by_checkcast l)))))
