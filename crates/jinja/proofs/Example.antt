-- The example keeps the rules, its rows are the least well-typings, and its run computes. Assumes nothing.
use Rattle.std.proofs.Common.{◌≡◌, ℕ, zero, suc, ◌<◌, ◌≤◌, List, [], ◌∷◌, length, pos, Some, None, sym, refl, ◌∙◌, subst, arith}
use Rattle.std.specs.List.{slice_get}
use Rattle.std.specs.Int.{int_wrap}
use Rattle.jinja.specs.declared.ty.Ty.{Ty}
use Rattle.jinja.specs.declared.ty.Ty.TheVariants.{Integer, Class}
use Rattle.jinja.specs.declared.instr.Literal.TheVariants as literal
use Rattle.jinja.specs.declared.instr.Instr.{Instr}
use Rattle.jinja.specs.declared.instr.Instr.TheVariants.{Load, Push, Pop, Getfield, Checkcast, Invoke, Return}
use Rattle.jinja.specs.declared.program.Field.{Field}
use Rattle.jinja.specs.Program.{MethodDecl}
use Rattle.jinja.specs.Classes.{superclass_of, at_or_below}
use Rattle.jinja.specs.Lookups.{Owned, own_fields, fields_within, fields_of, own_field, method_at, own_method, sees}
use Rattle.jinja.specs.WellFormed.{TypeExists, WellFormed}
use Rattle.jinja.specs.Rows.{Cell, usable, reached, Table, RowOf, row}
use Rattle.jinja.specs.Order.{LeRow}
use Rattle.jinja.specs.Rule.{Edge, edge}
use Rattle.jinja.specs.WellTyping.{Flows, FlowAll, no_more, flow, Typed, WellTyping, Least, LeTable, LeastTypings}
use Rattle.jinja.specs.Transfer.{is_relevant, sends}
use Rattle.jinja.specs.Values.{class_of, fits}
use Rattle.jinja.specs.Step.{catches}
use Rattle.jinja.specs.Example.{outer, inner, example, outer_rows, inner_rows, example_rows, ExampleStands}
use Rattle.jinja.proofs.Options.{conflict, some_inj}
use Rattle.jinja.proofs.Order.{row_refl}
use Rattle.jinja.proofs.Bridge.{typed, flows_first, flows_rest}
use Rattle.jinja.proofs.Sends.{sent_below}
use Rattle.jinja.proofs.History.{promise_kept}

-- every class lies under Object, which has and sees nothing
under_object : (c : ℕ) → superclass_of example c ≡ 0
unfolding superclass_of
under_object zero = refl
under_object (suc zero) = refl
under_object (suc (suc zero)) = refl
under_object (suc (suc (suc zero))) = refl
under_object (suc (suc (suc (suc zero)))) = refl
under_object (suc (suc (suc (suc (suc c))))) = refl

object_sees : (m : ℕ) → sees example 0 m ≡ None
unfolding sees own_method
object_sees m = refl

few_own : (c : ℕ) → length (own_fields example c) ≤ 2
few_own zero = omega arith
few_own (suc zero) = omega arith
few_own (suc (suc zero)) = omega arith
few_own (suc (suc (suc zero))) = omega arith
few_own (suc (suc (suc (suc zero)))) = omega arith
few_own (suc (suc (suc (suc (suc c))))) = omega arith

object_within : (k : ℕ) → fields_within example k 0 ≡ []
object_within zero = refl
object_within (suc k) = rw (under_object 0, object_within k)

few_fields : (c : ℕ) → length (fields_of example c) ≤ 8
unfolding fields_of
few_fields zero = omega arith
few_fields (suc c) = let l = few_own (suc c) in rw (under_object (suc c), object_within c) (omega arith)

own_types : {f : Field} (c i : ℕ) → slice_get (own_fields example c) i ≡ Some f → TypeExists example f.ty
own_types zero i e = absurd (conflict e)
own_types (suc zero) i e = absurd (conflict e)
own_types (suc (suc zero)) i e = absurd (conflict e)
own_types (suc (suc (suc zero))) i e = absurd (conflict e)
own_types (suc (suc (suc (suc zero)))) zero e = subst (λ (f : Field). TypeExists example f.ty) (some_inj e) refl
own_types (suc (suc (suc (suc zero)))) (suc zero) e = subst (λ (f : Field). TypeExists example f.ty) (some_inj e) refl
own_types (suc (suc (suc (suc zero)))) (suc (suc i)) e = absurd (conflict e)
own_types (suc (suc (suc (suc (suc c))))) i e = absurd (conflict e)

abbrev owned : MethodDecl → Owned
owned m = record { owner = 4; method = m }

-- what holds of both methods holds of each
of_both : (Q : Owned → Type 0) → Q (owned outer) → Q (owned inner) → {N : Owned} (k : ℕ) → method_at example k ≡ Some N → Q N
unfolding method_at
of_both Q o i zero e = subst Q (some_inj e) o
of_both Q o i (suc zero) e = subst Q (some_inj e) i
of_both Q o i (suc (suc k)) e = absurd (conflict e)

pub well_formed : WellFormed example
well_formed = record {
  smaller = λ c. let e = under_object (suc c) in omega arith;
  few_fields = few_fields;
  field_types = own_types;
  param_types = λ {N} {t} k i e q. of_both (λ (N : Owned). slice_get N.method.params i ≡ Some t → TypeExists example t) (λ x. absurd (conflict x)) (λ x. absurd (conflict x)) k e q;
  result_types = λ k e. of_both (λ (N : Owned). TypeExists example N.method.result) refl refl k e;
  some_code = λ k e. of_both (λ (N : Owned). 0 < length N.method.code) (omega arith) (omega arith) k e;
  overriding = λ c m d s p q. absurd (conflict (sym (object_sees m) ∙ (rw (under_object c) at s)));
}

-- what the instruction at a place sends from its row
pub record Sent (M : Owned) (pc : ℕ) (i : Instr) (st : List Ty) (lt : List Cell) (es : List Edge) : Type 0 where
  pub is : slice_get M.method.code pc ≡ Some i
  pub sends_are : sends example M i pc (reached st lt) ≡ Some es

-- the instruction is typed where that flows
follow : {M : Owned} {rows : Table} {es : List Edge} {i i₀ : Instr} {st st₀ : List Ty} {lt lt₀ : List Cell} {pc : ℕ} → Sent M pc i₀ st₀ lt₀ es → FlowAll example M rows es → slice_get M.method.code pc ≡ Some i → reached st₀ lt₀ ≡ reached st lt → Typed example M rows i pc st lt
follow {M} {rows} {i = i} {i₀} {st} {st₀} {lt} {lt₀} {pc} s f p q =
    let a : i₀ ≡ i = some_inj (sym s.is ∙ p) in
    let b : st₀ ≡ st = cc in
    let c : lt₀ ≡ lt = cc in
    subst (λ l. Typed example M rows i pc st l) c (subst (λ s. Typed example M rows i pc s lt₀) b (subst (λ j. Typed example M rows j pc st₀ lt₀) a (typed well_formed i₀ pc st₀ lt₀ s.sends_are f)))

-- and flows below every well-typing above the row
onward : {M : Owned} {rows : Table} {es : List Edge} {i : Instr} {st : List Ty} {lt : List Cell} {pc : ℕ} → Sent M pc i st lt es → WellTyping example M rows → LeRow example (reached st lt) (rows pc) → FlowAll example M rows es
onward {M} {rows} s t l = let r = sent_below well_formed t s.is l in subst (FlowAll example M rows) (some_inj (sym r.1 ∙ s.sends_are)) r.2

-- a row flows into the same row
same_row : {M : Owned} {rows : Table} {st : List Ty} {lt : List Cell} (p : ℕ) → p < length M.method.code → RowOf example M (reached st lt) → rows p ≡ reached st lt → Flows example M rows p st lt
same_row {st = st} {lt} p i r e = record { inside = i; below = subst (LeRow example (reached st lt)) (sym e) (row_refl r) }

abbrev this : List Cell
this = usable (Class 4) ∷ []

outer_0 : Sent (owned outer) 0 (Load 0) [] this (edge 1 (Class 4 ∷ []) this ∷ [])
unfolding is_relevant
outer_0 = record { is = refl; sends_are = refl }

outer_1 : Sent (owned outer) 1 (Invoke 8 0) (Class 4 ∷ []) this (edge 2 (Integer ∷ []) this ∷ edge 3 (Class 0 ∷ []) this ∷ [])
unfolding is_relevant sees own_method method_at
outer_1 = record { is = refl; sends_are = refl }

outer_2 : Sent (owned outer) 2 Return (Integer ∷ []) this []
unfolding is_relevant
outer_2 = record { is = refl; sends_are = refl }

outer_3 : Sent (owned outer) 3 Pop (Class 0 ∷ []) this (edge 4 [] this ∷ [])
unfolding is_relevant
outer_3 = record { is = refl; sends_are = refl }

outer_4 : Sent (owned outer) 4 (Push (literal.Integer (pos 1))) [] this (edge 5 (Integer ∷ []) this ∷ [])
unfolding is_relevant
outer_4 = record { is = refl; sends_are = refl }

outer_5 : Sent (owned outer) 5 Return (Integer ∷ []) this []
unfolding is_relevant
outer_5 = record { is = refl; sends_are = refl }

inner_0 : Sent (owned inner) 0 (Load 0) [] this (edge 1 (Class 4 ∷ []) this ∷ [])
inner_0 = record { is = refl; sends_are = refl }

inner_1 : Sent (owned inner) 1 (Checkcast 4) (Class 4 ∷ []) this (edge 2 (Class 4 ∷ []) this ∷ [])
inner_1 = record { is = refl; sends_are = refl }

inner_2 : Sent (owned inner) 2 (Getfield 1 4) (Class 4 ∷ []) this (edge 3 (Class 4 ∷ []) this ∷ [])
unfolding own_field at_or_below
inner_2 = record { is = refl; sends_are = refl }

inner_3 : Sent (owned inner) 3 (Getfield 2 4) (Class 4 ∷ []) this (edge 4 (Integer ∷ []) this ∷ [])
unfolding own_field at_or_below
inner_3 = record { is = refl; sends_are = refl }

inner_4 : Sent (owned inner) 4 Return (Integer ∷ []) this []
inner_4 = record { is = refl; sends_are = refl }

outer_typing : WellTyping example (owned outer) outer_rows
outer_typing = record { rows_of = rows_of; start = row_refl {M = owned outer} (row tt (refl, tt) refl); each = each }
  where
    rows_of : (pc : ℕ) → pc < 6 → RowOf example (owned outer) (outer_rows pc)
    rows_of zero l = row tt (refl, tt) refl
    rows_of (suc zero) l = row (refl, tt) (refl, tt) refl
    rows_of (suc (suc zero)) l = row (refl, tt) (refl, tt) refl
    rows_of (suc (suc (suc zero))) l = row (refl, tt) (refl, tt) refl
    rows_of (suc (suc (suc (suc zero)))) l = row tt (refl, tt) refl
    rows_of (suc (suc (suc (suc (suc pc))))) l = row (refl, tt) (refl, tt) refl

    each : (pc : ℕ) (i : Instr) (st : List Ty) (lt : List Cell) → slice_get outer.code pc ≡ Some i → outer_rows pc ≡ reached st lt → Typed example (owned outer) outer_rows i pc st lt
    each zero i st lt p q = follow outer_0 (flow (same_row 1 (omega arith) (rows_of 1 (omega arith)) refl) no_more) p q
    each (suc zero) i st lt p q = follow outer_1 (flow (same_row 2 (omega arith) (rows_of 2 (omega arith)) refl) (flow (same_row 3 (omega arith) (rows_of 3 (omega arith)) refl) no_more)) p q
    each (suc (suc zero)) i st lt p q = follow outer_2 no_more p q
    each (suc (suc (suc zero))) i st lt p q = follow outer_3 (flow (same_row 4 (omega arith) (rows_of 4 (omega arith)) refl) no_more) p q
    each (suc (suc (suc (suc zero)))) i st lt p q = follow outer_4 (flow (same_row 5 (omega arith) (rows_of 5 (omega arith)) refl) no_more) p q
    each (suc (suc (suc (suc (suc zero))))) i st lt p q = follow outer_5 no_more p q
    each (suc (suc (suc (suc (suc (suc pc)))))) i st lt p q = absurd (conflict p)

inner_typing : WellTyping example (owned inner) inner_rows
inner_typing = record { rows_of = rows_of; start = row_refl {M = owned inner} (row tt (refl, tt) refl); each = each }
  where
    rows_of : (pc : ℕ) → pc < 5 → RowOf example (owned inner) (inner_rows pc)
    rows_of zero l = row tt (refl, tt) refl
    rows_of (suc zero) l = row (refl, tt) (refl, tt) refl
    rows_of (suc (suc zero)) l = row (refl, tt) (refl, tt) refl
    rows_of (suc (suc (suc zero))) l = row (refl, tt) (refl, tt) refl
    rows_of (suc (suc (suc (suc pc)))) l = row (refl, tt) (refl, tt) refl

    each : (pc : ℕ) (i : Instr) (st : List Ty) (lt : List Cell) → slice_get inner.code pc ≡ Some i → inner_rows pc ≡ reached st lt → Typed example (owned inner) inner_rows i pc st lt
    each zero i st lt p q = follow inner_0 (flow (same_row 1 (omega arith) (rows_of 1 (omega arith)) refl) no_more) p q
    each (suc zero) i st lt p q = follow inner_1 (flow (same_row 2 (omega arith) (rows_of 2 (omega arith)) refl) no_more) p q
    each (suc (suc zero)) i st lt p q = follow inner_2 (flow (same_row 3 (omega arith) (rows_of 3 (omega arith)) refl) no_more) p q
    each (suc (suc (suc zero))) i st lt p q = follow inner_3 (flow (same_row 4 (omega arith) (rows_of 4 (omega arith)) refl) no_more) p q
    each (suc (suc (suc (suc zero)))) i st lt p q = follow inner_4 no_more p q
    each (suc (suc (suc (suc (suc pc))))) i st lt p q = absurd (conflict p)

outer_least : (other : Table) → WellTyping example (owned outer) other → LeTable example (owned outer) outer_rows other
outer_least other t pc l =
    let w = well_formed in
    let r1 = (flows_first w (onward outer_0 t t.start)).below in
    let f1 = onward outer_1 t r1 in
    let r3 = (flows_first w (flows_rest w f1)).below in
    let r4 = (flows_first w (onward outer_3 t r3)).below in
    go pc l t.start r1 (flows_first w f1).below r3 r4 (flows_first w (onward outer_4 t r4)).below
  where
    go : (pc : ℕ) → pc < 6 → LeRow example (outer_rows 0) (other 0) → LeRow example (outer_rows 1) (other 1) → LeRow example (outer_rows 2) (other 2) → LeRow example (outer_rows 3) (other 3) → LeRow example (outer_rows 4) (other 4) → LeRow example (outer_rows 5) (other 5) → LeRow example (outer_rows pc) (other pc)
    go zero l r0 r1 r2 r3 r4 r5 = r0
    go (suc zero) l r0 r1 r2 r3 r4 r5 = r1
    go (suc (suc zero)) l r0 r1 r2 r3 r4 r5 = r2
    go (suc (suc (suc zero))) l r0 r1 r2 r3 r4 r5 = r3
    go (suc (suc (suc (suc zero)))) l r0 r1 r2 r3 r4 r5 = r4
    go (suc (suc (suc (suc (suc zero))))) l r0 r1 r2 r3 r4 r5 = r5
    go (suc (suc (suc (suc (suc (suc pc)))))) l r0 r1 r2 r3 r4 r5 = absurd (omega arith)

inner_least : (other : Table) → WellTyping example (owned inner) other → LeTable example (owned inner) inner_rows other
inner_least other t pc l =
    let w = well_formed in
    let r1 = (flows_first w (onward inner_0 t t.start)).below in
    let r2 = (flows_first w (onward inner_1 t r1)).below in
    let r3 = (flows_first w (onward inner_2 t r2)).below in
    go pc l t.start r1 r2 r3 (flows_first w (onward inner_3 t r3)).below
  where
    go : (pc : ℕ) → pc < 5 → LeRow example (inner_rows 0) (other 0) → LeRow example (inner_rows 1) (other 1) → LeRow example (inner_rows 2) (other 2) → LeRow example (inner_rows 3) (other 3) → LeRow example (inner_rows 4) (other 4) → LeRow example (inner_rows pc) (other pc)
    go zero l r0 r1 r2 r3 r4 = r0
    go (suc zero) l r0 r1 r2 r3 r4 = r1
    go (suc (suc zero)) l r0 r1 r2 r3 r4 = r2
    go (suc (suc (suc zero))) l r0 r1 r2 r3 r4 = r3
    go (suc (suc (suc (suc zero)))) l r0 r1 r2 r3 r4 = r4
    go (suc (suc (suc (suc (suc pc))))) l r0 r1 r2 r3 r4 = absurd (omega arith)

least : LeastTypings example example_rows
unfolding method_at
least zero M e = subst (λ M. Least example M outer_rows) (some_inj e) (record { typing = outer_typing; least = outer_least })
least (suc zero) M e = subst (λ M. Least example M inner_rows) (some_inj e) (record { typing = inner_typing; least = inner_least })
least (suc (suc k)) M e = absurd (conflict e)

pub example_stands : ExampleStands
unfolding superclass_of at_or_below sees own_method method_at own_field fields_of class_of fits catches int_wrap
example_stands = record {
  well_formed = well_formed;
  typed = least;
  promise = promise_kept well_formed (λ k M e. (least k M e).typing);
  answers = refl;
  makes = refl;
  fills = refl;
  wraps = refl;
}
