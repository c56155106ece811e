-- Where the needs of an instruction hold of a row they hold of every lower row, which sends less. Assumes nothing.
use Rattle.std.proofs.Common.{◌≡◌, ℕ, ◌⊎◌, List, [], ◌∷◌, Some, refl, ap, ◌∙◌, subst, inl, inr, ⊎_elim, arith}
use Rattle.jinja.specs.declared.ty.Ty.{Ty}
use Rattle.jinja.specs.declared.ty.Ty.TheVariants.{Boolean, NullType, Class}
use Rattle.jinja.specs.declared.instr.Literal.{Literal}
use Rattle.jinja.specs.declared.instr.Literal.TheVariants as literal
use Rattle.jinja.specs.declared.instr.Instr.{Instr}
use Rattle.jinja.specs.declared.instr.Instr.TheVariants.{Load, CmpEq, Invoke}
use Rattle.jinja.specs.declared.program.Handler.{Handler}
use Rattle.jinja.specs.Program.{Program}
use Rattle.jinja.specs.Classes.{here}
use Rattle.jinja.specs.Lookups.{Owned}
use Rattle.jinja.specs.WellFormed.{WellFormed}
use Rattle.jinja.specs.Rows.{Cell, usable, Table}
use Rattle.jinja.specs.Order.{nil, cons, Le, void, boolean, integer, null, null_class, subclass, Reference, null_reference, class_reference, LeAll, LeCell, le_usable, LeCells, le_reached}
use Rattle.jinja.specs.Rule.{literal_type, operands, operands_of, Edge, next, Rule, load, store, push, pop, new, getfield, putfield, checkcast, invoke, invoke_null, return, iadd, cmpeq, cmpeq_references, iffalse, goto, throw}
use Rattle.jinja.specs.WellTyping.{Caught}
use Rattle.jinja.specs.TypingLaws.{le_stop, le_edge, Lower, RulesMonotone}
use Rattle.jinja.proofs.Pairwise.{pairs_length, shorter, pairs_lowest, pairs_nth, pairs_set, pairs_taken}
use Rattle.jinja.proofs.Inheritance.{inheritance}
use Rattle.jinja.proofs.Order.{le_trans, all_trans, row_trans, reference_down, le_refl}
use Rattle.jinja.proofs.Existing.{own_field_exists, overrides_takes, overrides_gives}

module _ {P : Program} where
  literal_refl : (v : Literal) → Le P (literal_type v) (literal_type v)
  literal_refl literal.Unit = void
  literal_refl literal.Null = null
  literal_refl (literal.Boolean b) = boolean
  literal_refl (literal.Integer z) = integer

  usable_below : {c : Cell} {u : Ty} → LeCell P c (usable u) → (t : Ty) × (c ≡ usable t) × Le P t u
  usable_below (le_usable l) = (_, refl, l)

  -- two types below one are equal or references
  below_both : {a b t : Ty} → Le P a t → Le P b t → (a ≡ b) ⊎ (Reference a × Reference b)
  below_both void void = inl refl
  below_both boolean boolean = inl refl
  below_both integer integer = inl refl
  below_both null null = inl refl
  below_both (null_class i) k = inr (null_reference, reference_down k class_reference)
  below_both (subclass s) k = inr (class_reference, reference_down k class_reference)

module _ {P : Program} (w : WellFormed P) {M : Owned} {pc : ℕ} where
  invoke_mono : {st st' : List Ty} {lt lt' : List Cell} {es : List Edge} (m n : ℕ) → Rule P M (Invoke m n) pc st' lt' es → LeAll P st st' → LeCells P lt lt' → Lower P M (Invoke m n) pc st lt es
  invoke_mono {st} {lt = lt} m n (invoke_null e) a b = let p = pairs_taken n a nil e in go p.receiver_is p.are
    where
      go : {t : Ty} {args left : List Ty} {es : List Edge} → Le P t NullType → operands_of n st ≡ Some (operands args t left) → Lower P M (Invoke m n) pc st lt es
      go null q = record { edges = []; rule = invoke_null q; lower = le_stop }
  invoke_mono {st} {lt = lt} {lt'} m n (invoke {c = d} {N = N} {rest = rest} e seen callee args room) a b =
      let p = pairs_taken n a nil e in go p.receiver_is p.are (all_trans p.args_are args) p.left_are
    where
      go : {t : Ty} {given left : List Ty} → Le P t (Class d) → operands_of n st ≡ Some (operands given t left) → LeAll P given N.method.params → LeAll P left rest → Lower P M (Invoke m n) pc st lt (next pc (N.method.result ∷ rest) lt')
      go (null_class i) q l k = record { edges = []; rule = invoke_null q; lower = le_stop }
      go (subclass s) q l k =
          let o = (inheritance P w).methods m s seen callee in
          record {
            edges = _;
            rule = invoke q o.seen o.stands (overrides_takes o.owned.method N.method o.related l) (shorter _ k room);
            lower = le_edge (cons (overrides_gives o.owned.method N.method o.related (w.result_types _ callee)) k) b le_stop;
          }

  cmpeq_mono : {st st' : List Ty} {lt lt' : List Cell} {es : List Edge} → Rule P M CmpEq pc st' lt' es → LeAll P st st' → LeCells P lt lt' → Lower P M CmpEq pc st lt es
  cmpeq_mono (cmpeq_references r s room) (cons x (cons y a)) b =
      record { edges = _; rule = cmpeq_references (reference_down x r) (reference_down y s) (shorter _ a room); lower = le_edge (cons boolean a) b le_stop }
  cmpeq_mono {lt = lt} (cmpeq room) (cons {a = t} x (cons {xs = ts} y a)) b =
      ⊎_elim
      (λ e. record { edges = _; rule = subst (λ u. Rule P M CmpEq pc (t ∷ u ∷ ts) lt (next pc (Boolean ∷ ts) lt)) e (cmpeq (shorter _ a room)); lower = le_edge (cons boolean a) b le_stop })
      (λ r. record { edges = _; rule = cmpeq_references r.0 r.1 (shorter _ a room); lower = le_edge (cons boolean a) b le_stop })
      (below_both x y)

  load_mono : {st st' : List Ty} {lt lt' : List Cell} {es : List Edge} (n : ℕ) → Rule P M (Load n) pc st' lt' es → LeAll P st st' → LeCells P lt lt' → Lower P M (Load n) pc st lt es
  load_mono n (load e room) a b =
      let r = pairs_nth n b e in
      let u = usable_below r.2 in
      record { edges = _; rule = load (r.1 ∙ ap Some u.1) (shorter _ a room); lower = le_edge (cons u.2 a) b le_stop }

pub rule_mono : {P : Program} (w : WellFormed P) {M : Owned} {i : Instr} {pc : ℕ} {st st' : List Ty} {lt lt' : List Cell} {es : List Edge} → LeAll P st st' → LeCells P lt lt' → Rule P M i pc st' lt' es → Lower P M i pc st lt es
rule_mono w a b (load e room) = load_mono w _ (load e room) a b
rule_mono w (cons x a) b (store l) = let q = pairs_length b in record { edges = _; rule = store (omega arith); lower = le_edge a (pairs_set _ b (le_usable x)) le_stop }
rule_mono w a b (push {v = v} room) = record { edges = _; rule = push (shorter _ a room); lower = le_edge (cons (literal_refl v) a) b le_stop }
rule_mono w (cons x a) b pop = record { edges = _; rule = pop; lower = le_edge a b le_stop }
rule_mono w a b (new i room) = record { edges = _; rule = new i (shorter _ a room); lower = le_edge (cons (subclass (here i)) a) b le_stop }
rule_mono w (cons x a) b (getfield e l room) = record { edges = _; rule = getfield e (le_trans x l) (shorter _ a room); lower = le_edge (cons (le_refl _ (own_field_exists w _ _ e)) a) b le_stop }
rule_mono w (cons x (cons y a)) b (putfield e l k) = record { edges = _; rule = putfield e (le_trans x l) (le_trans y k); lower = le_edge a b le_stop }
rule_mono w (cons x a) b (checkcast r i room) = record { edges = _; rule = checkcast (reference_down x r) i (shorter _ a room); lower = le_edge (cons (subclass (here i)) a) b le_stop }
rule_mono w a b (invoke e s m l room) = invoke_mono w _ _ (invoke e s m l room) a b
rule_mono w a b (invoke_null e) = invoke_mono w _ _ (invoke_null e) a b
rule_mono w (cons x a) b (return l) = record { edges = _; rule = return (le_trans x l); lower = le_stop }
rule_mono w (cons integer (cons integer a)) b (iadd room) = record { edges = _; rule = iadd (shorter _ a room); lower = le_edge (cons integer a) b le_stop }
rule_mono w a b (cmpeq room) = cmpeq_mono w (cmpeq room) a b
rule_mono w a b (cmpeq_references r s room) = cmpeq_mono w (cmpeq_references r s room) a b
rule_mono w (cons boolean a) b (iffalse e) = record { edges = _; rule = iffalse e; lower = le_edge a b (le_edge a b le_stop) }
rule_mono w a b (goto e) = record { edges = _; rule = goto e; lower = le_edge a b le_stop }
rule_mono w (cons x a) b (throw r) = record { edges = _; rule = throw (reference_down x r); lower = le_stop }

-- a handler that is right for a row is right for every lower one
pub caught_mono : {P : Program} {M : Owned} {rows : Table} {st st' : List Ty} {lt lt' : List Cell} {x : Handler} → LeAll P st st' → LeCells P lt lt' → Caught P M rows st' lt' x → Caught P M rows st lt x
caught_mono {x = x} a b k =
    let q = pairs_length a in
    record {
      exists = k.exists;
      deep = omega (arith, k.deep);
      room = k.room;
      flows = record { inside = k.flows.inside; below = row_trans (le_reached (cons (subclass (here k.exists)) (pairs_lowest x.depth a)) b) k.flows.below };
    }

pub rules_monotone : RulesMonotone
rules_monotone P w = record { rules = rule_mono w; handlers = caught_mono }
