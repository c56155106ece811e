-- The function that runs follows the rules, and the other way round. Assumes nothing.
use Rattle.std.proofs.Common.{◌≡◌, ℕ, suc, Bool, true, false, cond, ◌&&◌, ◌||◌, ltb, leb, List, [], ◌∷◌, ◌++◌, length, Some, None, Option, sym, refl, ap, ◌∙◌, subst, ⊎_elim}
use Rattle.std.proofs.lemmas.Bool.{lt-ltb, le-leb, eq-eqb, ltb-true, leb-true, and_parts, and_from, or_cases, or_right, false≢true}
use Rattle.jinja.specs.declared.ty.Ty.{Ty}
use Rattle.jinja.specs.declared.ty.Ty.TheVariants.{Void, Boolean, Integer, NullType, Class}
use Rattle.jinja.specs.declared.instr.Instr.{Instr}
use Rattle.jinja.specs.declared.instr.Instr.TheVariants.{Load, Store, Push, Pop, New, Getfield, Putfield, Checkcast, Invoke, Return, IAdd, CmpEq, IfFalse, Goto, Throw}
use Rattle.jinja.specs.declared.program.Handler.{Handler}
use Rattle.jinja.specs.Options.{◌>>=◌, ◌>>◌}
use Rattle.jinja.specs.Program.{Program}
use Rattle.jinja.specs.Types.{type_number, same_type}
use Rattle.jinja.specs.Classes.{is_class}
use Rattle.jinja.specs.Lookups.{Owned}
use Rattle.jinja.specs.WellFormed.{WellFormed}
use Rattle.jinja.specs.Rows.{Cell, usable, unusable, Table, reached}
use Rattle.jinja.specs.Order.{nil, cons, Le, void, boolean, integer, null, null_class, subclass, Reference, null_reference, class_reference, LeAll}
use Rattle.jinja.specs.Rule.{Operands, operands, operands_of, jump, Edge, edge, next, Rule, load, store, push, pop, new, getfield, putfield, checkcast, invoke, invoke_null, return, iadd, cmpeq, cmpeq_references, iffalse, goto, throw}
use Rattle.jinja.specs.Handlers.{MayThrow, by_throw, by_invoke, by_getfield, by_putfield, by_checkcast, by_new, Relevant, lowest, In, first, later}
use Rattle.jinja.specs.WellTyping.{Flows, FlowAll, no_more, flow, Caught, Typed}
use Rattle.jinja.specs.Join.{is_reference}
use Rattle.jinja.specs.Transfer.{type_le, types_le, cell_type, send_call, transfer, may_throw, is_relevant, send_handler, send_handlers, sends}
use Rattle.jinja.proofs.Options.{conflict, some_inj}
use Rattle.jinja.proofs.Climbs.{below_tested, below_found}
use Rattle.jinja.proofs.Inheritance.{same_type_is}

-- what a look-up and a test that were passed say
pub passed : {A B : Type 0} (o : Option A) (f : A → Option B) {b : B} → (o >>= f) ≡ Some b → (a : A) × (o ≡ Some a) × (f a ≡ Some b)
passed None f e = absurd (conflict e)
passed (Some a) f e = (a, refl, e)

pub tested : {A : Type 0} (t : Bool) (o : Option A) {b : A} → (t >> o) ≡ Some b → (t ≡ true) × (o ≡ Some b)
tested true o e = (refl, e)
tested false o e = absurd (conflict e)

pub reference_found : (t : Ty) → is_reference t ≡ true → Reference t
reference_found Void e = absurd (false≢true e)
reference_found Boolean e = absurd (false≢true e)
reference_found Integer e = absurd (false≢true e)
reference_found NullType e = null_reference
reference_found (Class c) e = class_reference

pub reference_tested : {t : Ty} → Reference t → is_reference t ≡ true
reference_tested null_reference = refl
reference_tested class_reference = refl

usable_cell : (c : Cell) {t : Ty} → cell_type c ≡ Some t → c ≡ usable t
usable_cell (usable t) e = ap usable (some_inj e)
usable_cell unusable e = absurd (conflict e)

module _ {P : Program} (w : WellFormed P) where
  pub le_found : (t u : Ty) → type_le P t u ≡ true → Le P t u
  le_found Void u e = subst (Le P Void) (same_type_is Void u e) void
  le_found Boolean u e = subst (Le P Boolean) (same_type_is Boolean u e) boolean
  le_found Integer u e = subst (Le P Integer) (same_type_is Integer u e) integer
  le_found NullType Void e = absurd (false≢true e)
  le_found NullType Boolean e = absurd (false≢true e)
  le_found NullType Integer e = absurd (false≢true e)
  le_found NullType NullType e = null
  le_found NullType (Class c) e = null_class (ltb-true _ _ e)
  le_found (Class c) Void e = absurd (false≢true e)
  le_found (Class c) Boolean e = absurd (false≢true e)
  le_found (Class c) Integer e = absurd (false≢true e)
  le_found (Class c) NullType e = absurd (false≢true e)
  le_found (Class c) (Class d) e = subclass (below_found w e)

  pub le_tested : {t u : Ty} → Le P t u → type_le P t u ≡ true
  le_tested void = refl
  le_tested boolean = refl
  le_tested integer = refl
  le_tested null = refl
  le_tested (null_class i) = lt-ltb _ _ i
  le_tested (subclass s) = below_tested w s

  all_found : (ts us : List Ty) → types_le P ts us ≡ true → LeAll P ts us
  all_found [] [] e = nil
  all_found [] (u ∷ us) e = absurd (false≢true e)
  all_found (t ∷ ts) [] e = absurd (false≢true e)
  all_found (t ∷ ts) (u ∷ us) e = let p = and_parts (type_le P t u) (types_le P ts us) e in cons (le_found t u p.0) (all_found ts us p.1)

  all_tested : {ts us : List Ty} → LeAll P ts us → types_le P ts us ≡ true
  all_tested nil = refl
  all_tested (cons l ls) = and_from _ _ (le_tested l) (all_tested ls)

  module _ {M : Owned} where
    -- an answer of the function is by a rule
    invoke_sound : (m n pc : ℕ) (st : List Ty) (lt : List Cell) {es : List Edge} → transfer P M (Invoke m n) pc st lt ≡ Some es → Rule P M (Invoke m n) pc st lt es
    invoke_sound m n pc st lt {es} e = let a = passed (operands_of n st) (send_call P M m pc lt) e in go a.0 a.1 a.2
      where
        go : (c : Operands Ty) → operands_of n st ≡ Some c → send_call P M m pc lt c ≡ Some es → Rule P M (Invoke m n) pc st lt es
        go (operands args Void r) p e = absurd (conflict e)
        go (operands args Boolean r) p e = absurd (conflict e)
        go (operands args Integer r) p e = absurd (conflict e)
        go (operands args NullType r) p e = subst (Rule P M (Invoke m n) pc st lt) (some_inj e) (invoke_null p)
        go (operands args (Class c) r) p e =
            let a = passed _ _ e in
            let b = passed _ _ a.2 in
            let d = tested _ _ b.2 in
            let f = tested _ _ d.1 in
            subst (Rule P M (Invoke m n) pc st lt) (some_inj f.1) (invoke p a.1 b.1 (all_found _ _ d.0) (ltb-true _ _ f.0))

    equal_sound : (pc : ℕ) (t u : Ty) (st : List Ty) (lt : List Cell) {es : List Edge} → transfer P M CmpEq pc (t ∷ u ∷ st) lt ≡ Some es → Rule P M CmpEq pc (t ∷ u ∷ st) lt es
    equal_sound pc t u st lt e =
        let a = tested (same_type t u || (is_reference t && is_reference u)) _ e in
        let b = tested _ _ a.1 in
        subst (Rule P M CmpEq pc (t ∷ u ∷ st) lt) (some_inj b.1) (⊎_elim
        (λ q. subst (λ v. Rule P M CmpEq pc (t ∷ v ∷ st) lt (next pc (Boolean ∷ st) lt)) (same_type_is t u q) (cmpeq (ltb-true _ _ b.0)))
        (λ q. let r = and_parts (is_reference t) (is_reference u) q in cmpeq_references (reference_found t r.0) (reference_found u r.1) (ltb-true _ _ b.0))
        (or_cases (same_type t u) (is_reference t && is_reference u) a.0))

    pub transfer_sound : (i : Instr) (pc : ℕ) (st : List Ty) (lt : List Cell) {es : List Edge} → transfer P M i pc st lt ≡ Some es → Rule P M i pc st lt es
    transfer_sound (Load n) pc st lt e =
        let a = passed _ _ e in
        let b = passed _ _ a.2 in
        let c = tested _ _ b.2 in
        subst (Rule P M (Load n) pc st lt) (some_inj c.1) (load (a.1 ∙ ap Some (usable_cell _ b.1)) (ltb-true _ _ c.0))
    transfer_sound (Store n) pc [] lt e = absurd (conflict e)
    transfer_sound (Store n) pc (t ∷ st) lt e = let c = tested _ _ e in subst (Rule P M (Store n) pc (t ∷ st) lt) (some_inj c.1) (store (ltb-true _ _ c.0))
    transfer_sound (Push v) pc st lt e = let a = tested _ _ e in subst (Rule P M (Push v) pc st lt) (some_inj a.1) (push (ltb-true _ _ a.0))
    transfer_sound Pop pc [] lt e = absurd (conflict e)
    transfer_sound Pop pc (t ∷ st) lt e = subst (Rule P M Pop pc (t ∷ st) lt) (some_inj e) pop
    transfer_sound (New c) pc st lt e =
        let a = tested _ _ e in let b = tested _ _ a.1 in subst (Rule P M (New c) pc st lt) (some_inj b.1) (new (ltb-true _ _ a.0) (ltb-true _ _ b.0))
    transfer_sound (Getfield f c) pc [] lt e = absurd (conflict e)
    transfer_sound (Getfield f c) pc (t ∷ st) lt e =
        let a = passed _ _ e in
        let b = tested _ _ a.2 in
        let d = tested _ _ b.1 in
        subst (Rule P M (Getfield f c) pc (t ∷ st) lt) (some_inj d.1) (getfield a.1 (le_found t (Class c) b.0) (ltb-true _ _ d.0))
    transfer_sound (Putfield f c) pc [] lt e = absurd (conflict e)
    transfer_sound (Putfield f c) pc (t ∷ []) lt e = absurd (conflict e)
    transfer_sound (Putfield f c) pc (t ∷ u ∷ st) lt e =
        let a = passed _ _ e in
        let b = tested _ _ a.2 in
        let d = tested _ _ b.1 in
        subst (Rule P M (Putfield f c) pc (t ∷ u ∷ st) lt) (some_inj d.1) (putfield a.1 (le_found _ _ b.0) (le_found _ _ d.0))
    transfer_sound (Checkcast c) pc [] lt e = absurd (conflict e)
    transfer_sound (Checkcast c) pc (t ∷ st) lt e =
        let a = tested _ _ e in
        let b = tested _ _ a.1 in
        let d = tested _ _ b.1 in
        subst (Rule P M (Checkcast c) pc (t ∷ st) lt) (some_inj d.1) (checkcast (reference_found t a.0) (ltb-true _ _ b.0) (ltb-true _ _ d.0))
    transfer_sound (Invoke m n) pc st lt e = invoke_sound m n pc st lt e
    transfer_sound Return pc [] lt e = absurd (conflict e)
    transfer_sound Return pc (t ∷ st) lt e = let a = tested _ _ e in subst (Rule P M Return pc (t ∷ st) lt) (some_inj a.1) (return (le_found _ _ a.0))
    transfer_sound IAdd pc [] lt e = absurd (conflict e)
    transfer_sound IAdd pc (t ∷ []) lt e = absurd (conflict e)
    transfer_sound IAdd pc (t ∷ u ∷ st) lt e =
        let a = tested (same_type Integer t) _ e in
        let b = tested (same_type Integer u) _ a.1 in
        let d = tested _ _ b.1 in
        let r : Rule P M IAdd pc (t ∷ u ∷ st) lt (next pc (Integer ∷ st) lt) = rw (← (same_type_is Integer t a.0), ← (same_type_is Integer u b.0)) (iadd (ltb-true _ _ d.0)) in
        subst (Rule P M IAdd pc (t ∷ u ∷ st) lt) (some_inj d.1) r
    transfer_sound CmpEq pc [] lt e = absurd (conflict e)
    transfer_sound CmpEq pc (t ∷ []) lt e = absurd (conflict e)
    transfer_sound CmpEq pc (t ∷ u ∷ st) lt e = equal_sound pc t u st lt e
    transfer_sound (IfFalse z) pc [] lt e = absurd (conflict e)
    transfer_sound (IfFalse z) pc (t ∷ st) lt e =
        let a = tested (same_type Boolean t) (jump pc z >>= λ q. Some (edge (suc pc) st lt ∷ edge q st lt ∷ [])) e in
        let b = passed (jump pc z) _ a.1 in
        let r : Rule P M (IfFalse z) pc (t ∷ st) lt (edge (suc pc) st lt ∷ edge b.0 st lt ∷ []) = subst (λ v. Rule P M (IfFalse z) pc (v ∷ st) lt (edge (suc pc) st lt ∷ edge b.0 st lt ∷ [])) (same_type_is Boolean t a.0) (iffalse b.1) in
        subst (Rule P M (IfFalse z) pc (t ∷ st) lt) (some_inj b.2) r
    transfer_sound (Goto z) pc st lt e = let a = passed _ _ e in subst (Rule P M (Goto z) pc st lt) (some_inj a.2) (goto a.1)
    transfer_sound Throw pc [] lt e = absurd (conflict e)
    transfer_sound Throw pc (t ∷ st) lt e = let a = tested _ _ e in subst (Rule P M Throw pc (t ∷ st) lt) (some_inj a.1) (throw (reference_found t a.0))

    -- and what a rule says is answered
    pub transfer_complete : {i : Instr} {pc : ℕ} {st : List Ty} {lt : List Cell} {es : List Edge} → Rule P M i pc st lt es → transfer P M i pc st lt ≡ Some es
    transfer_complete (load e l) = rw (e, lt-ltb _ _ l)
    transfer_complete (store l) = rw (lt-ltb _ _ l)
    transfer_complete (push l) = rw (lt-ltb _ _ l)
    transfer_complete pop = refl
    transfer_complete (new c l) = rw (lt-ltb _ _ c, lt-ltb _ _ l)
    transfer_complete (getfield e l r) = rw (e, le_tested l, lt-ltb _ _ r)
    transfer_complete (putfield e l m) = rw (e, le_tested l, le_tested m)
    transfer_complete (checkcast r c l) = rw (reference_tested r, lt-ltb _ _ c, lt-ltb _ _ l)
    transfer_complete (invoke e s m l r) = rw (e, s, m, all_tested l, lt-ltb _ _ r)
    transfer_complete (invoke_null e) = rw e
    transfer_complete (return l) = rw (le_tested l)
    transfer_complete (iadd l) = rw (lt-ltb _ _ l)
    transfer_complete (cmpeq {t = t} l) = rw (eq-eqb (type_number t) (type_number t) refl, lt-ltb _ _ l)
    transfer_complete (cmpeq_references {t = t} {u = u} r s l) = rw (or_right (same_type t u) (is_reference t && is_reference u) (and_from _ _ (reference_tested r) (reference_tested s)), lt-ltb _ _ l)
    transfer_complete (iffalse e) = rw e
    transfer_complete (goto e) = rw e
    transfer_complete (throw r) = rw (reference_tested r)

  may_throw_tested : {i : Instr} {c : ℕ} → MayThrow P i c → may_throw P i c ≡ true
  may_throw_tested by_throw = refl
  may_throw_tested by_invoke = refl
  may_throw_tested (by_getfield s) = below_tested w s
  may_throw_tested (by_putfield s) = below_tested w s
  may_throw_tested (by_checkcast s) = below_tested w s
  may_throw_tested (by_new s) = below_tested w s

  may_throw_found : (i : Instr) {c : ℕ} → may_throw P i c ≡ true → MayThrow P i c
  may_throw_found (New d) e = by_new (below_found w e)
  may_throw_found (Getfield f d) e = by_getfield (below_found w e)
  may_throw_found (Putfield f d) e = by_putfield (below_found w e)
  may_throw_found (Checkcast d) e = by_checkcast (below_found w e)
  may_throw_found (Invoke m n) e = by_invoke
  may_throw_found Throw e = by_throw
  may_throw_found (Load n) e = absurd (false≢true e)
  may_throw_found (Store n) e = absurd (false≢true e)
  may_throw_found (Push v) e = absurd (false≢true e)
  may_throw_found Pop e = absurd (false≢true e)
  may_throw_found Return e = absurd (false≢true e)
  may_throw_found IAdd e = absurd (false≢true e)
  may_throw_found CmpEq e = absurd (false≢true e)
  may_throw_found (IfFalse z) e = absurd (false≢true e)
  may_throw_found (Goto z) e = absurd (false≢true e)

  relevant_tested : {i : Instr} {pc : ℕ} {x : Handler} → Relevant P i pc x → is_relevant P i pc x ≡ true
  unfolding is_relevant
  relevant_tested r = and_from _ _ (and_from _ _ (le-leb _ _ r.covers.from) (lt-ltb _ _ r.covers.to)) (may_throw_tested r.throws)

  relevant_found : (i : Instr) (pc : ℕ) (x : Handler) → is_relevant P i pc x ≡ true → Relevant P i pc x
  unfolding is_relevant
  relevant_found i pc x e =
      let a = and_parts _ _ e in
      let b = and_parts _ _ a.0 in
      record { covers = record { from = leb-true _ _ b.0; to = ltb-true _ _ b.1 }; throws = may_throw_found i a.1 }

  pub flows_first : {M : Owned} {rows : Table} {p : ℕ} {st : List Ty} {lt : List Cell} {es : List Edge} → FlowAll P M rows (edge p st lt ∷ es) → Flows P M rows p st lt
  flows_first (flow f fs) = f

  pub flows_rest : {M : Owned} {rows : Table} {e : Edge} {es : List Edge} → FlowAll P M rows (e ∷ es) → FlowAll P M rows es
  flows_rest (flow f fs) = fs

  flows_both : {M : Owned} {rows : Table} {es fs : List Edge} → FlowAll P M rows es → FlowAll P M rows fs → FlowAll P M rows (es ++ fs)
  flows_both no_more b = b
  flows_both (flow f a) b = flow f (flows_both a b)

  flows_parts : {M : Owned} {rows : Table} (es fs : List Edge) → FlowAll P M rows (es ++ fs) → FlowAll P M rows es × FlowAll P M rows fs
  flows_parts [] fs a = (no_more, a)
  flows_parts (edge p s l ∷ es) fs (flow f a) = let r = flows_parts es fs a in (flow f r.0, r.1)

  module _ {M : Owned} {rows : Table} (i : Instr) (pc : ℕ) {st : List Ty} {lt : List Cell} where
    handlers_sent : (xs : List Handler) → ((x : Handler) → In x xs → Relevant P i pc x → Caught P M rows st lt x) → (es : List Edge) × (send_handlers P M xs i pc st lt ≡ Some es) × FlowAll P M rows es
    handlers_sent [] c = ([], refl, no_more)
    handlers_sent (x ∷ xs) c =
        let r = handlers_sent xs (λ y m. c y (later m)) in
        (elim (is_relevant P i pc x) as (λ b. is_relevant P i pc x ≡ b → (es : List Edge) × (cond b (is_class P x.class >> (leb x.depth (length st) >> (ltb x.depth M.method.height >> (send_handlers P M xs i pc st lt >>= λ es. Some (edge x.target (Class x.class ∷ lowest x.depth st) lt ∷ es))))) (send_handlers P M xs i pc st lt) ≡ Some es) × FlowAll P M rows es) [
          | true ↦ λ t.
              let k = c x first (relevant_found i pc x t) in
              (edge x.target (Class x.class ∷ lowest x.depth st) lt ∷ r.0, rw (lt-ltb _ _ k.exists, le-leb _ _ k.deep, lt-ltb _ _ k.room, r.1), flow k.flows r.2)
          | false ↦ λ t. r
        ]) refl

    -- a handler that is passed over, and one that counts
    handler_found : {es : List Edge} (x : Handler) (o : Option (List Edge)) → send_handler P M x i pc st lt o ≡ Some es → FlowAll P M rows es → (hs : List Edge) × (o ≡ Some hs) × FlowAll P M rows hs × (is_relevant P i pc x ≡ true → Caught P M rows st lt x)
    handler_found {es} x o e a = go (is_relevant P i pc x) e
      where
        go : (v : Bool) → cond v (is_class P x.class >> (leb x.depth (length st) >> (ltb x.depth M.method.height >> (o >>= λ es. Some (edge x.target (Class x.class ∷ lowest x.depth st) lt ∷ es))))) o ≡ Some es → (hs : List Edge) × (o ≡ Some hs) × FlowAll P M rows hs × (v ≡ true → Caught P M rows st lt x)
        go true e =
            let b = tested _ _ e in
            let d = tested _ _ b.1 in
            let f = tested _ _ d.1 in
            let g = passed _ _ f.1 in
            let n : FlowAll P M rows (edge x.target (Class x.class ∷ lowest x.depth st) lt ∷ g.0) = subst (FlowAll P M rows) (sym (some_inj g.2)) a in
            (g.0, g.1, flows_rest n, λ t. record { exists = ltb-true _ _ b.0; deep = leb-true _ _ d.0; room = ltb-true _ _ f.0; flows = flows_first n })
        go false e = (es, e, a, λ t. absurd (false≢true t))

    handlers_found : {x : Handler} {xs : List Handler} (es : List Edge) → In x xs → Relevant P i pc x → send_handlers P M xs i pc st lt ≡ Some es → FlowAll P M rows es → Caught P M rows st lt x
    handlers_found {x} es (first {xs = xs}) r e a = (handler_found x (send_handlers P M xs i pc st lt) e a).3 (relevant_tested r)
    handlers_found es (later {b = y} {xs = ys} m) r e a = let k = handler_found y (send_handlers P M ys i pc st lt) e a in handlers_found k.0 m r k.1 k.2

  pub sent : {M : Owned} {rows : Table} {i : Instr} {pc : ℕ} {st : List Ty} {lt : List Cell} → Typed P M rows i pc st lt → (es : List Edge) × (sends P M i pc (reached st lt) ≡ Some es) × FlowAll P M rows es
  sent {M} {i = i} {pc} t = let h = handlers_sent i pc M.method.handlers t.caught in (t.edges ++ h.0, rw (transfer_complete t.rule, h.1), flows_both t.flows h.2)

  pub typed : {M : Owned} {rows : Table} {es : List Edge} (i : Instr) (pc : ℕ) (st : List Ty) (lt : List Cell) → sends P M i pc (reached st lt) ≡ Some es → FlowAll P M rows es → Typed P M rows i pc st lt
  typed {M} {rows} i pc st lt e a =
      let t = passed (transfer P M i pc st lt) _ e in
      let h = passed (send_handlers P M M.method.handlers i pc st lt) _ t.2 in
      let p = flows_parts t.0 h.0 (subst (FlowAll P M rows) (sym (some_inj h.2)) a) in
      record { edges = t.0; rule = transfer_sound i pc st lt t.1; flows = p.0; caught = λ x m r. handlers_found i pc h.0 m r h.1 p.1 }
