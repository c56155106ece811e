-- What an instruction sends from an allowed row is an allowed row, and a method begins with one. Assumes nothing.
use Rattle.std.proofs.Common.{◌≡◌, ℕ, zero, suc, ◌+◌, ◌-◌, ◌<◌, ◌≤◌, Bool, true, false, cond, ltb, leb, List, [], ◌∷◌, map, length, replicate, Some, refl, ◌∙◌, subst, arith, length-set}
use Rattle.std.specs.List.{AllByRecursion}
use Rattle.std.proofs.ByRecursion.{All-append, All-set, All-drop, All-map}
use Rattle.std.proofs.lemmas.List.{length-append, length-map, length-replicate, length-drop}
use Rattle.std.proofs.lemmas.Bool.{lt-ltb, ltb-true, leb-true}
use Rattle.jinja.specs.declared.ty.Ty.{Ty}
use Rattle.jinja.specs.declared.ty.Ty.TheVariants.{Class}
use Rattle.jinja.specs.declared.instr.Literal.{Literal}
use Rattle.jinja.specs.declared.instr.Literal.TheVariants as literal
use Rattle.jinja.specs.declared.instr.Instr.{Instr}
use Rattle.jinja.specs.declared.program.Handler.{Handler}
use Rattle.jinja.specs.Options.{◌>>=◌, ◌>>◌}
use Rattle.jinja.specs.Program.{ClassDecl, Program}
use Rattle.jinja.specs.Classes.{IsClass, table, is_class}
use Rattle.jinja.specs.Lookups.{Owned, methods_from, method_at}
use Rattle.jinja.specs.WellFormed.{TypeExists, WellFormed}
use Rattle.jinja.specs.Rows.{Cell, usable, unusable, CellExists, reached, registers, first_row, row}
use Rattle.jinja.specs.Rule.{literal_type, operands, taken, Edge, edge, Rule, load, store, push, pop, new, getfield, putfield, checkcast, invoke, invoke_null, return, iadd, cmpeq, cmpeq_references, iffalse, goto, throw}
use Rattle.jinja.specs.Handlers.{lowest}
use Rattle.jinja.specs.Transfer.{is_relevant, transfer, send_handlers, sends}
use Rattle.jinja.specs.Rising.{Allowed, reached_allowed}
use Rattle.jinja.proofs.Options.{conflict, some_inj, all_nth}
use Rattle.jinja.proofs.Existing.{own_field_exists, all_from_nth}
use Rattle.jinja.proofs.Bridge.{passed, tested, transfer_sound}

-- an edge carries an allowed row
abbrev pub CarriesAllowed : Program → Owned → Edge → Type 0
CarriesAllowed P M (edge p st lt) = Allowed P M (reached st lt)

literal_exists : (P : Program) (v : Literal) → TypeExists P (literal_type v)
literal_exists P literal.Unit = refl
literal_exists P literal.Null = refl
literal_exists P (literal.Boolean b) = refl
literal_exists P (literal.Integer z) = refl

-- what is left under the operands
left_exist : (Q : Ty → Type 0) (n : ℕ) (st acc : List Ty) {args rest : List Ty} {t : Ty} → AllByRecursion Q st → taken n st acc ≡ Some (operands args t rest) → AllByRecursion Q rest
left_exist Q zero [] acc q e = absurd (conflict e)
left_exist Q zero (r ∷ st) acc q e = subst (AllByRecursion Q) (cc) q.1
left_exist Q (suc n) [] acc q e = absurd (conflict e)
left_exist Q (suc n) (a ∷ st) acc q e = left_exist Q n st (a ∷ acc) q.1 e

module _ {P : Program} {M : Owned} where
  allowed : {st : List Ty} {lt : List Cell} → AllByRecursion (TypeExists P) st → AllByRecursion (CellExists P) lt → length lt ≡ registers M → length st ≤ M.method.height → Allowed P M (reached st lt)
  allowed s l n h = reached_allowed (row s l n) h

module _ {P : Program} (w : WellFormed P) {M : Owned} where
  -- the successors of an instruction get allowed rows
  pub rule_sends_allowed : {i : Instr} {pc : ℕ} {st : List Ty} {lt : List Cell} {es : List Edge} → AllByRecursion (TypeExists P) st → AllByRecursion (CellExists P) lt → length lt ≡ registers M → length st ≤ M.method.height → Rule P M i pc st lt es → AllByRecursion (CarriesAllowed P M) es
  rule_sends_allowed s l n h (load {n = k} {lt = lt} e room) = (allowed (all_nth (CellExists P) lt k l e, s) l n room, tt)
  rule_sends_allowed s l n h (store {n = k} {t = t} {lt = lt} i) = (allowed s.1 (All-set (CellExists P) lt k (usable t) s.0 l) (length-set lt k (usable t) ∙ n) (omega arith), tt)
  rule_sends_allowed s l n h (push {v = v} room) = (allowed (literal_exists P v, s) l n room, tt)
  rule_sends_allowed s l n h pop = (allowed s.1 l n (omega arith), tt)
  rule_sends_allowed s l n h (new i room) = (allowed (lt-ltb _ _ i, s) l n room, tt)
  rule_sends_allowed s l n h (getfield {f = f} {c = c} e t room) = (allowed (own_field_exists w c f e, s.1) l n room, tt)
  rule_sends_allowed s l n h (putfield e t u) = (allowed s.1.1 l n (omega arith), tt)
  rule_sends_allowed s l n h (checkcast r i room) = (allowed (lt-ltb _ _ i, s.1) l n room, tt)
  rule_sends_allowed s l n h (invoke {n = a} {k = k} {st = st} e q m ts room) = (allowed (w.result_types k m, left_exist (TypeExists P) a st [] s e) l n room, tt)
  rule_sends_allowed s l n h (invoke_null e) = tt
  rule_sends_allowed s l n h (return t) = tt
  rule_sends_allowed s l n h (iadd room) = (allowed (refl, s.1.1) l n room, tt)
  rule_sends_allowed s l n h (cmpeq room) = (allowed (refl, s.1.1) l n room, tt)
  rule_sends_allowed s l n h (cmpeq_references r t room) = (allowed (refl, s.1.1) l n room, tt)
  rule_sends_allowed s l n h (iffalse e) = (allowed s.1 l n (omega arith), (allowed s.1 l n (omega arith), tt))
  rule_sends_allowed s l n h (goto e) = (allowed s l n h, tt)
  rule_sends_allowed s l n h (throw r) = tt

  -- and so does the target of a handler
  pub handler_sends_allowed : (x : Handler) (st : List Ty) {lt : List Cell} → AllByRecursion (TypeExists P) st → AllByRecursion (CellExists P) lt → length lt ≡ registers M → IsClass P x.class → x.depth ≤ length st → x.depth < M.method.height → Allowed P M (reached (Class x.class ∷ lowest x.depth st) lt)
  handler_sends_allowed x st s l n exists deep room =
      let d = length-drop (length st - x.depth) st in allowed (lt-ltb _ _ exists, All-drop (TypeExists P) (length st - x.depth) st s) l n (omega arith)

module _ {P : Program} (w : WellFormed P) (M : Owned) (i : Instr) (pc : ℕ) (st : List Ty) (lt : List Cell) where
  handlers_send_allowed : (xs : List Handler) {es : List Edge} → AllByRecursion (TypeExists P) st → AllByRecursion (CellExists P) lt → length lt ≡ registers M → send_handlers P M xs i pc st lt ≡ Some es → AllByRecursion (CarriesAllowed P M) es
  handlers_send_allowed [] s l n e = subst (AllByRecursion (CarriesAllowed P M)) (some_inj e) tt
  handlers_send_allowed (x ∷ xs) {es} s l n e = go (is_relevant P i pc x) (λ hs e. handlers_send_allowed xs s l n e) e
    where
      go : (b : Bool) → ((hs : List Edge) → send_handlers P M xs i pc st lt ≡ Some hs → AllByRecursion (CarriesAllowed P M) hs) → cond b (is_class P x.class >> (leb x.depth (length st) >> (ltb x.depth M.method.height >> (send_handlers P M xs i pc st lt >>= λ es. Some (edge x.target (Class x.class ∷ lowest x.depth st) lt ∷ es))))) (send_handlers P M xs i pc st lt) ≡ Some es → AllByRecursion (CarriesAllowed P M) es
      go true others e =
          let b = tested (is_class P x.class) _ e in
          let d = tested (leb x.depth (length st)) _ b.1 in
          let f = tested (ltb x.depth M.method.height) _ d.1 in
          let g = passed (send_handlers P M xs i pc st lt) _ f.1 in
          subst (AllByRecursion (CarriesAllowed P M)) (some_inj g.2) (handler_sends_allowed w x st s l n (ltb-true _ _ b.0) (leb-true _ _ d.0) (ltb-true _ _ f.0), others g.0 g.1)
      go false others e = others es e

  -- all that is sent from an allowed row
  pub sent_allowed : {es : List Edge} → Allowed P M (reached st lt) → sends P M i pc (reached st lt) ≡ Some es → AllByRecursion (CarriesAllowed P M) es
  sent_allowed (reached_allowed (row s l n) h) e =
      let a = passed (transfer P M i pc st lt) _ e in
      let b = passed (send_handlers P M M.method.handlers i pc st lt) _ a.2 in
      subst (AllByRecursion (CarriesAllowed P M)) (some_inj b.2) (All-append (CarriesAllowed P M) a.0 b.0 (rule_sends_allowed w s l n h (transfer_sound w i pc st lt a.1)) (handlers_send_allowed M.method.handlers s l n b.1))

-- a method's owner is a class
owners : (c n : ℕ) (ds : List ClassDecl) → c + length ds ≤ n → AllByRecursion (λ (N : Owned). N.owner < n) (methods_from c ds)
owners c n [] l = tt
owners c n (d ∷ ds) l =
    All-append (λ (N : Owned). N.owner < n) (map (λ m. record { owner = c; method = m }) d.methods) (methods_from (suc c) ds)
    (All-map (λ (N : Owned). N.owner < n) (λ m. record { owner = c; method = m }) d.methods (every d.methods))
    (owners (suc c) n ds (omega arith))
  where
    every : {A : Type 0} (xs : List A) → AllByRecursion (λ x. c < n) xs
    every [] = tt
    every (x ∷ xs) = (omega arith, every xs)

owner_exists : (P : Program) {M : Owned} (k : ℕ) → method_at P k ≡ Some M → IsClass P M.owner
unfolding method_at
owner_exists P k e = all_nth (λ (N : Owned). N.owner < length (table P)) (methods_from 0 (table P)) k (owners 0 (length (table P)) (table P) (omega arith)) e

all_unusable : (P : Program) (n : ℕ) → AllByRecursion (CellExists P) (replicate n unusable)
all_unusable P zero = tt
all_unusable P (suc n) = (tt, all_unusable P n)

-- a method begins with an allowed row
pub first_allowed : {P : Program} (w : WellFormed P) {M : Owned} (k : ℕ) → method_at P k ≡ Some M → Allowed P M (first_row M)
first_allowed {P} w {M} k e =
    let m = M.method in
    let extras : List Cell = replicate m.extras unusable in
    let a = length-append (map usable m.params) extras in
    let b = length-map m.params usable in
    let c = length-replicate m.extras unusable in
    allowed tt
    (lt-ltb _ _ (owner_exists P k e), All-append (CellExists P) (map usable m.params) extras (All-map (CellExists P) usable m.params (all_from_nth _ _ (λ i t q. w.param_types k i e q))) (all_unusable P m.extras))
    (omega arith) (omega arith)
