-- What a step does to the heap, whatever state it meets. Assumes nothing.
use Rattle.std.proofs.Common.{◌≡◌, ℕ, Bool, true, false, cond, ltb, leb, List, [], ◌∷◌, ◌++◌, length, Some, None, Option, sym, refl, ◌∙◌, subst}
use Rattle.std.specs.List.{slice_get}
use Rattle.heap.specs.declared.value.Value.{Value}
use Rattle.heap.specs.declared.value.Value.TheVariants as value
use Rattle.heap.specs.declared.charge.ChargeLine.{ChargeLine}
use Rattle.heap.specs.Meaning.{Meaning, admits}
use Rattle.heap.specs.Calls.{with_object}
use Rattle.jinja.specs.declared.instr.Instr.{Instr}
use Rattle.jinja.specs.declared.instr.Instr.TheVariants.{Load, Store, Push, Pop, New, Getfield, Putfield, Checkcast, Invoke, Return, IAdd, CmpEq, IfFalse, Goto, Throw}
use Rattle.jinja.specs.declared.program.FieldPlace.{FieldPlace}
use Rattle.jinja.specs.declared.program.Handler.{Handler}
use Rattle.jinja.specs.Options.{◌>>◌}
use Rattle.jinja.specs.Program.{Program}
use Rattle.jinja.specs.Classes.{is_class, at_or_below}
use Rattle.jinja.specs.Lookups.{Owned, own_field, method_at, sees}
use Rattle.jinja.specs.WellFormed.{WellFormed}
use Rattle.jinja.specs.Rule.{Operands, operands, operands_of, jump}
use Rattle.jinja.specs.Transfer.{can_push}
use Rattle.jinja.specs.Values.{class_of, fits, fit_all, start_row}
use Rattle.jinja.specs.Step.{Frame, null_pointer_at, class_cast_at, out_of_memory_at, frame_limit, as_boolean, as_integer, going, Next, goes, returned, threw, frames_full, on_reference, catcher, catch, unwind, raise, put, call, return_to, exec}
use Rattle.jinja.specs.History.{with_made}
use Rattle.jinja.proofs.Options.{conflict, some_inj}
use Rattle.jinja.proofs.Bridge.{passed, tested}
use Rattle.jinja.proofs.Instructions.{frame}
use Rattle.jinja.proofs.Counted.{Counted, admits_is, counted_add, counted_write}

-- where the heap h goes on as another, or the run is over with it, Q holds
pub data After (Q : Meaning → Type 0) (h : Meaning) : Next → Type 0 where
  moves : {h' : Meaning} {fs : List Frame} → Q h' → After Q h (goes h' fs)
  returns : {v : Value} → Q h → After Q h (returned v)
  throws : {a : ℕ} → Q h → After Q h (threw a)
  fills : After Q h frames_full

module _ {Q : Meaning → Type 0} {h : Meaning} where
  got : {m n : Next} → Some m ≡ Some n → After Q h m → After Q h n
  got e x = subst (After Q h) (some_inj e) x

  either : {n : Next} (t : Bool) (x y : Option Next) → cond t x y ≡ Some n → (t ≡ true → x ≡ Some n → After Q h n) → (t ≡ false → y ≡ Some n → After Q h n) → After Q h n
  either true x y e f g = f refl e
  either false x y e f g = g refl e

  on : {n : Next} (r : Value) (o : Option Next) (f : ℕ → Option Next) → on_reference r o f ≡ Some n → (o ≡ Some n → After Q h n) → ((a : ℕ) → f a ≡ Some n → After Q h n) → After Q h n
  on value.Unit o f e x g = absurd (conflict e)
  on value.Null o f e x g = x e
  on (value.Bool b) o f e x g = absurd (conflict e)
  on (value.Int z) o f e x g = absurd (conflict e)
  on (value.Addr a) o f e x g = g a e

  module _ (P : Program) (keeps : Q h) where
    catch_after : {n : Next} (a : ℕ) (M : Owned) (o : Option Handler) (f : Frame) (rest : List Frame) (below : Option Next) → catch P h a M o f rest below ≡ Some n → (below ≡ Some n → After Q h n) → After Q h n
    catch_after a M None f rest below e g = g e
    catch_after a M (Some x) f rest below e g = let p = tested (leb x.depth (length f.stack)) _ e in let q = tested (ltb x.depth M.method.height) _ p.1 in let r = tested (ltb x.target (length M.method.code)) _ q.1 in got r.1 (moves keeps)

    unwind_after : {n : Next} (a c : ℕ) (fs : List Frame) → unwind P h a c fs ≡ Some n → After Q h n
    unwind_after a c [] e = got e (throws keeps)
    unwind_after {n} a c (f ∷ rest) e = let p = passed (method_at P f.method) (λ M. catch P h a M (catcher P M.method.handlers f.pc c) f rest (unwind P h a c rest)) e in catch_after a p.0 _ f rest _ p.2 (λ x. unwind_after a c rest x)

    raise_after : {n : Next} (a : ℕ) (fs : List Frame) → raise P h a fs ≡ Some n → After Q h n
    raise_after a fs e = let p = passed (class_of h a) (λ c. unwind P h a c fs) e in unwind_after a p.0 fs p.2

    return_after : {n : Next} (v : Value) (k : ℕ) (fs : List Frame) → return_to P h v k fs ≡ Some n → After Q h n
    return_after v k [] e = got e (returns keeps)
    return_after {n} v k (f ∷ rest) e = let p = passed (method_at P f.method) _ e in let q = passed (operands_of k f.stack) _ p.2 in at q.0 p.0 q.2
      where
        at : (p : Operands Value) (M : Owned) → elim p [ operands args r left ↦ can_push M left >> going h f (v ∷ left) rest ] ≡ Some n → After Q h n
        at (operands args r left) M e = let p = tested (can_push M left) _ e in got p.1 (moves keeps)

    call_after : {n : Next} (m a : ℕ) (args : List Value) (M : Owned) (left : List Value) (fs : List Frame) → call P h m a args M left fs ≡ Some n → After Q h n
    call_after m a args M left fs e =
        let p = passed (class_of h a) _ e in
        let q = passed (sees P p.0 m) _ p.2 in
        let r = passed (method_at P q.0) _ q.2 in
        let s = tested (fit_all P h args r.0.method.params) _ r.2 in
        let t = tested (can_push M left) _ s.1 in
        either (ltb (length fs) frame_limit) _ _ t.1 (λ x y. got y (moves keeps)) (λ x y. got y fills)

module _ {P : Program} (w : WellFormed P) {ls : List ChargeLine} {cs : List ℕ} {h : Meaning} (counted : Counted P ls h cs) where
  abbrev Made : Instr → Meaning → Type 0
  Made i h' = Counted P ls h' (with_made P ls i cs)

  new_after : {n : Next} (c k pc : ℕ) (M : Owned) (stk regs : List Value) (rest : List Frame) → exec P (New c) h M (frame k pc stk regs) rest ≡ Some n → After (Made (New c)) h n
  new_after c k pc M stk regs rest e =
      let p = tested (is_class P c) _ e in
      let q = tested (can_push M stk) _ p.1 in
      let room = admits_is w c counted in
      either (admits h (length (start_row P c))) _ _ q.1
      (λ t x. got x (moves (subst (λ b. Counted P ls (with_object h c (start_row P c)) (cond b (cs ++ c ∷ []) cs)) (sym t ∙ room) (counted_add c counted t))))
      (λ t x. raise_after P (subst (λ b. Counted P ls h (cond b (cs ++ c ∷ []) cs)) (sym t ∙ room) counted) out_of_memory_at (frame k pc stk regs ∷ rest) x)

  put_after : {n : Next} (x : FieldPlace) (c a : ℕ) (v : Value) (f : Frame) (stk : List Value) (rest : List Frame) → put P h x c a v f stk rest ≡ Some n → After (λ h'. Counted P ls h' cs) h n
  put_after x c a v f stk rest e =
      let p = passed (slice_get h.objects a) _ e in
      let q = tested (at_or_below P p.0.class c) _ p.2 in
      let r = tested (ltb x.place (length p.0.row)) _ q.1 in
      got r.1 (moves (counted_write a x.place v counted p.1))

  pub exec_after : {n : Next} (i : Instr) (k pc : ℕ) (M : Owned) (stk regs : List Value) (rest : List Frame) → exec P i h M (frame k pc stk regs) rest ≡ Some n → After (Made i) h n
  exec_after (Load x) k pc M stk regs rest e = let p = passed (slice_get regs x) _ e in let q = tested (can_push M stk) _ p.2 in got q.1 (moves counted)
  exec_after (Store x) k pc M [] regs rest e = absurd (conflict e)
  exec_after (Store x) k pc M (v ∷ stk) regs rest e = let p = tested (ltb x (length regs)) _ e in got p.1 (moves counted)
  exec_after (Push v) k pc M stk regs rest e = let p = tested (can_push M stk) _ e in got p.1 (moves counted)
  exec_after Pop k pc M [] regs rest e = absurd (conflict e)
  exec_after Pop k pc M (v ∷ stk) regs rest e = got e (moves counted)
  exec_after (New c) k pc M stk regs rest e = new_after c k pc M stk regs rest e
  exec_after (Getfield x c) k pc M [] regs rest e = absurd (conflict e)
  exec_after (Getfield x c) k pc M (v ∷ stk) regs rest e =
      let p = passed (own_field P c x) _ e in
      let q = tested (can_push M stk) _ p.2 in
      on v _ _ q.1 (raise_after P counted null_pointer_at (frame k pc (v ∷ stk) regs ∷ rest)) (λ a y.
      let o = passed (slice_get h.objects a) _ y in
      let r = tested (at_or_below P o.0.class c) _ o.2 in
      let s = passed (slice_get o.0.row p.0.place) _ r.1 in
      let t = tested (fits P h s.0 p.0.ty) _ s.2 in
      got t.1 (moves counted))
  exec_after (Putfield x c) k pc M [] regs rest e = absurd (conflict e)
  exec_after (Putfield x c) k pc M (v ∷ []) regs rest e = absurd (conflict e)
  exec_after (Putfield x c) k pc M (v ∷ r ∷ stk) regs rest e =
      let p = passed (own_field P c x) _ e in
      let q = tested (fits P h v p.0.ty) _ p.2 in
      on r _ _ q.1 (raise_after P counted null_pointer_at (frame k pc (v ∷ r ∷ stk) regs ∷ rest)) (λ a y. put_after p.0 c a v (frame k pc (v ∷ r ∷ stk) regs) stk rest y)
  exec_after (Checkcast c) k pc M [] regs rest e = absurd (conflict e)
  exec_after (Checkcast c) k pc M (v ∷ stk) regs rest e =
      let p = tested (is_class P c) _ e in
      let q = tested (can_push M stk) _ p.1 in
      on v _ _ q.1 (λ y. got y (moves counted)) (λ a y.
      let o = passed (class_of h a) _ y in
      either (at_or_below P o.0 c) _ _ o.2 (λ t z. got z (moves counted)) (λ t z. raise_after P counted class_cast_at (frame k pc (v ∷ stk) regs ∷ rest) z))
  exec_after {n} (Invoke m x) k pc M stk regs rest e = let p = passed (operands_of x stk) _ e in at p.0 p.2
    where
      at : (p : Operands Value) → elim p [ operands args r left ↦ on_reference r (raise P h null_pointer_at (frame k pc stk regs ∷ rest)) (λ a. call P h m a args M left (frame k pc stk regs ∷ rest)) ] ≡ Some n → After (λ h'. Counted P ls h' cs) h n
      at (operands args r left) e =
          on r (raise P h null_pointer_at (frame k pc stk regs ∷ rest)) (λ a. call P h m a args M left (frame k pc stk regs ∷ rest)) e (raise_after P counted null_pointer_at (frame k pc stk regs ∷ rest)) (λ a y. call_after P counted m a args M left (frame k pc stk regs ∷ rest) y)
  exec_after Return k pc M [] regs rest e = absurd (conflict e)
  exec_after Return k pc M (v ∷ stk) regs rest e = let p = tested (fits P h v M.method.result) _ e in return_after P counted v (length M.method.params) rest p.1
  exec_after IAdd k pc M [] regs rest e = absurd (conflict e)
  exec_after IAdd k pc M (v ∷ []) regs rest e = absurd (conflict e)
  exec_after IAdd k pc M (v ∷ u ∷ stk) regs rest e = let p = passed (as_integer v) _ e in let q = passed (as_integer u) _ p.2 in let r = tested (can_push M stk) _ q.2 in got r.1 (moves counted)
  exec_after CmpEq k pc M [] regs rest e = absurd (conflict e)
  exec_after CmpEq k pc M (v ∷ []) regs rest e = absurd (conflict e)
  exec_after CmpEq k pc M (v ∷ u ∷ stk) regs rest e = let p = tested (can_push M stk) _ e in got p.1 (moves counted)
  exec_after (IfFalse z) k pc M [] regs rest e = absurd (conflict e)
  exec_after (IfFalse z) k pc M (v ∷ stk) regs rest e = let p = passed (jump pc z) _ e in let q = tested (ltb p.0 (length M.method.code)) _ p.2 in let r = passed (as_boolean v) _ q.1 in got r.2 (moves counted)
  exec_after (Goto z) k pc M stk regs rest e = let p = passed (jump pc z) _ e in let q = tested (ltb p.0 (length M.method.code)) _ p.2 in got q.1 (moves counted)
  exec_after Throw k pc M [] regs rest e = absurd (conflict e)
  exec_after Throw k pc M (v ∷ stk) regs rest e = on v _ _ e (raise_after P counted null_pointer_at (frame k pc (v ∷ stk) regs ∷ rest)) (λ a y. raise_after P counted a (frame k pc (v ∷ stk) regs ∷ rest) y)
