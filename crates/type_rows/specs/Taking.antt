-- An instruction takes a row where its rule holds and its handlers fit, and then all that it sends is in the method. Assumes nothing.
use Rattle.std.specs.Prelude.{◌≡◌, ℕ, zero, suc, ◌<◌, ◌≤◌, Bool, true, false, cond, List, [], ◌∷◌, ◌++◌, length, Some, None, Option, nat_le, nat_lt, refl}
use Rattle.std.proofs.Common.{sym, subst, arith}
use Rattle.std.specs.List.{slice_get, AllByRecursion}
use Rattle.std.proofs.ByRecursion.{All-append}
use Rattle.std.proofs.lemmas.Bool.{lt-ltb, le-leb, ltb-true, leb-true, and_parts, and_from, false≢true}
use Rattle.jinja.specs.declared.ty.Ty.{Ty}
use Rattle.jinja.specs.declared.ty.Ty.TheVariants.{Class}
use Rattle.jinja.specs.declared.instr.Instr.{Instr}
use Rattle.jinja.specs.declared.program.Handler.{Handler}
use Rattle.jinja.specs.Options.{◌>>=◌, ◌>>◌}
use Rattle.jinja.specs.Program.{Program}
use Rattle.jinja.specs.Classes.{maybe, IsClass, is_class}
use Rattle.jinja.specs.Lookups.{Owned}
use Rattle.jinja.specs.WellFormed.{WellFormed}
use Rattle.jinja.specs.Rows.{Cell, reached}
use Rattle.jinja.specs.Order.{LeAll, LeCells}
use Rattle.jinja.specs.Handlers.{lowest}
use Rattle.jinja.specs.Rule.{Edge, edge, Rule}
use Rattle.jinja.specs.Transfer.{is_relevant, transfer, send_handlers, sends}
use Rattle.jinja.specs.TypingLaws.{LeEdges, le_stop, le_edge}
use Rattle.jinja.proofs.Options.{conflict, some_inj}
use Rattle.jinja.proofs.Pairwise.{pairs_length}
use Rattle.jinja.proofs.Bridge.{passed, tested, transfer_sound, transfer_complete}
use Rattle.jinja.proofs.Monotone.{rules_monotone}
use Rattle.type_rows.specs.MethodFlow.{all_inside, refuses_row}

-- the edge ends before n
abbrev pub Inside : ℕ → Edge → Type 0
Inside n (edge p st lt) = p < n

pub inside_found : (n : ℕ) (es : List Edge) → all_inside n es ≡ true → AllByRecursion (Inside n) es
inside_found n [] t = tt
inside_found n (edge p st lt ∷ es) t = let a = and_parts _ _ t in (ltb-true _ _ a.0, inside_found n es a.1)

pub inside_tested : (n : ℕ) (es : List Edge) → AllByRecursion (Inside n) es → all_inside n es ≡ true
inside_tested n [] a = refl
inside_tested n (edge p st lt ∷ es) a = and_from _ _ (lt-ltb _ _ a.0) (inside_tested n es a.1)

pub all_parts : {A : Type 0} (Q : A → Type 0) (xs ys : List A) → AllByRecursion Q (xs ++ ys) → AllByRecursion Q xs × AllByRecursion Q ys
all_parts Q [] ys a = (tt, a)
all_parts Q (x ∷ xs) ys a = let r = all_parts Q xs ys a.1 in ((a.0, r.0), r.1)

-- a relevant handler's class exists, and its depth suits the stack
pub record Suits (P : Program) (M : Owned) (st : List Ty) (x : Handler) : Type 0 where
  pub exists : IsClass P x.class
  pub deep : x.depth ≤ length st
  pub room : x.depth < M.method.height

-- what goes to its target
abbrev pub handler_edge : List Ty → List Cell → Handler → Edge
handler_edge st lt x = edge x.target (Class x.class ∷ lowest x.depth st) lt

module _ {P : Program} {M : Owned} (i : Instr) (pc : ℕ) {st : List Ty} {lt : List Cell} (Q : Edge → Type 0) where
  one_found : {es : List Edge} (x : Handler) (o : Option (List Edge)) (b : Bool) → cond b (is_class P x.class >> (nat_le x.depth (length st) >> (nat_lt x.depth M.method.height >> (o >>= λ es. Some (handler_edge st lt x ∷ es))))) o ≡ Some es → AllByRecursion Q es → (hs : List Edge) × (o ≡ Some hs) × AllByRecursion Q hs × (b ≡ true → Suits P M st x × Q (handler_edge st lt x))
  one_found {es} x o true e a =
      let b = tested (is_class P x.class) _ e in
      let d = tested (nat_le x.depth (length st)) _ b.1 in
      let f = tested (nat_lt x.depth M.method.height) _ d.1 in
      let g = passed o _ f.1 in
      let n : AllByRecursion Q (handler_edge st lt x ∷ g.0) = subst (AllByRecursion Q) (sym (some_inj g.2)) a in
      (g.0, g.1, n.1, λ t. (record { exists = ltb-true _ _ b.0; deep = leb-true _ _ d.0; room = ltb-true _ _ f.0 }, n.0))
  one_found {es} x o false e a = (es, e, a, λ t. absurd (false≢true t))

  -- where the handlers send, each relevant one suits
  pub handlers_suit : (xs : List Handler) (es : List Edge) → send_handlers P M xs i pc st lt ≡ Some es → AllByRecursion Q es → (j : ℕ) (x : Handler) → slice_get xs j ≡ Some x → is_relevant P i pc x ≡ true → Suits P M st x × Q (handler_edge st lt x)
  handlers_suit [] es e a j x f r = absurd (conflict f)
  handlers_suit (y ∷ xs) es e a zero x f r =
      let k = one_found y (send_handlers P M xs i pc st lt) (is_relevant P i pc y) e a in
      subst (λ z. is_relevant P i pc z ≡ true → Suits P M st z × Q (handler_edge st lt z)) (some_inj f) k.3 r
  handlers_suit (y ∷ xs) es e a (suc j) x f r =
      let k = one_found y (send_handlers P M xs i pc st lt) (is_relevant P i pc y) e a in
      handlers_suit xs k.0 k.1 k.2 j x f r

  one_sent : {hs : List Edge} (x : Handler) (o : Option (List Edge)) (b : Bool) → o ≡ Some hs → AllByRecursion Q hs → (b ≡ true → Suits P M st x × Q (handler_edge st lt x)) → (es : List Edge) × (cond b (is_class P x.class >> (nat_le x.depth (length st) >> (nat_lt x.depth M.method.height >> (o >>= λ es. Some (handler_edge st lt x ∷ es))))) o ≡ Some es) × AllByRecursion Q es
  one_sent {hs} x o true e a c = let k = c refl in (handler_edge st lt x ∷ hs, rw (lt-ltb _ _ k.0.exists, le-leb _ _ k.0.deep, lt-ltb _ _ k.0.room, e), (k.1, a))
  one_sent {hs} x o false e a c = (hs, e, a)

  -- where each relevant one suits, the handlers send
  pub handlers_send : (xs : List Handler) → ((j : ℕ) (x : Handler) → slice_get xs j ≡ Some x → is_relevant P i pc x ≡ true → Suits P M st x × Q (handler_edge st lt x)) → (es : List Edge) × (send_handlers P M xs i pc st lt ≡ Some es) × AllByRecursion Q es
  handlers_send [] c = ([], refl, tt)
  handlers_send (x ∷ xs) c =
      let r = handlers_send xs (λ j y e. c (suc j) y e) in
      one_sent x (send_handlers P M xs i pc st lt) (is_relevant P i pc x) r.1 r.2 (c 0 x refl)

-- the rule holds, and each relevant handler suits; successors and targets are in the method
pub record Taken (P : Program) (M : Owned) (i : Instr) (pc : ℕ) (st : List Ty) (lt : List Cell) : Type 0 where
  pub nexts : List Edge
  pub rule : Rule P M i pc st lt nexts
  pub inside : AllByRecursion (Inside (length M.method.code)) nexts
  pub caught : (j : ℕ) (x : Handler) → slice_get M.method.handlers j ≡ Some x → is_relevant P i pc x ≡ true → Suits P M st x × Inside (length M.method.code) (handler_edge st lt x)

not_refused : (n : ℕ) (o : Option (List Edge)) → maybe o true (λ es. cond (all_inside n es) false true) ≡ false → (es : List Edge) × (o ≡ Some es) × (all_inside n es ≡ true)
not_refused n None e = absurd (false≢true (sym e))
not_refused n (Some es) e = (es, refl, go (all_inside n es) e)
  where
    go : (b : Bool) → cond b false true ≡ false → b ≡ true
    go true e = refl
    go false e = absurd (false≢true (sym e))

lower_inside : {P : Program} (n : ℕ) {es fs : List Edge} → LeEdges P es fs → AllByRecursion (Inside n) fs → AllByRecursion (Inside n) es
lower_inside n le_stop a = tt
lower_inside n (le_edge s l k) a = (a.0, lower_inside n k a.1)

module _ {P : Program} (w : WellFormed P) {M : Owned} where
  pub taken_found : (i : Instr) (pc : ℕ) (st : List Ty) (lt : List Cell) → refuses_row P M i pc (reached st lt) ≡ false → Taken P M i pc st lt
  taken_found i pc st lt e =
      let n = length M.method.code in
      let a = not_refused n (sends P M i pc (reached st lt)) e in
      let t = passed (transfer P M i pc st lt) _ a.1 in
      let h = passed (send_handlers P M M.method.handlers i pc st lt) _ t.2 in
      let p = all_parts (Inside n) t.0 h.0 (subst (AllByRecursion (Inside n)) (sym (some_inj h.2)) (inside_found n a.0 a.2)) in
      record {
        nexts = t.0;
        rule = transfer_sound w i pc st lt t.1;
        inside = p.0;
        caught = λ j x f r. handlers_suit i pc (Inside n) M.method.handlers h.0 h.1 p.1 j x f r;
      }

  pub taken_tested : {i : Instr} {pc : ℕ} {st : List Ty} {lt : List Cell} → Taken P M i pc st lt → refuses_row P M i pc (reached st lt) ≡ false
  taken_tested {i} {pc} {st} {lt} t =
      let n = length M.method.code in
      let h = handlers_send i pc {st = st} {lt = lt} (Inside n) M.method.handlers t.caught in
      rw (transfer_complete w t.rule, h.1, inside_tested n (t.nexts ++ h.0) (All-append (Inside n) t.nexts h.0 t.inside h.2))

  -- a row that lies below one that is taken is taken, and sends less
  pub taken_below : {i : Instr} {pc : ℕ} {st st' : List Ty} {lt lt' : List Cell} → LeAll P st st' → LeCells P lt lt' → (t : Taken P M i pc st' lt') → (u : Taken P M i pc st lt) × LeEdges P u.nexts t.nexts
  taken_below a b t =
      let l = (rules_monotone P w).rules a b t.rule in
      let q = pairs_length a in (
        record {
          nexts = l.edges;
          rule = l.rule;
          inside = lower_inside _ l.lower t.inside;
          caught = λ j x f r.
              let k = t.caught j x f r in
              let d = k.0.deep in
              (record { exists = k.0.exists; deep = omega arith; room = k.0.room }, k.1);
        },
        l.lower,
      )
