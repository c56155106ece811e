-- The join is the least upper bound, and is there wherever there is an upper bound. Assumes nothing.
use Rattle.std.proofs.Common.{◌≡◌, ℕ, zero, suc, ◌+◌, ◌<◌, ◌≤◌, Bool, true, false, cond, eqb, ltb, List, [], ◌∷◌, Some, None, Option, sym, refl, ◌∙◌, subst, ⊎_elim, arith}
use Rattle.std.specs.List.{AllByRecursion}
use Rattle.std.proofs.lemmas.Bool.{eqb-true, eqb-false, ltb-true, ltb-false, cases_lt, false≢true}
use Rattle.jinja.specs.declared.ty.Ty.{Ty}
use Rattle.jinja.specs.declared.ty.Ty.TheVariants.{Void, Boolean, Integer, NullType, Class}
use Rattle.jinja.specs.Program.{Program}
use Rattle.jinja.specs.Types.{same_type}
use Rattle.jinja.specs.Classes.{maybe, IsClass, superclass_of, AtOrBelow, here, up}
use Rattle.jinja.specs.Lookups.{Owned}
use Rattle.jinja.specs.WellFormed.{TypeExists, WellFormed}
use Rattle.jinja.specs.Rows.{Cell, usable, unusable, Row, unreached, reached, CellExists, RowOf, row}
use Rattle.jinja.specs.Order.{nil, cons, Le, void, boolean, integer, null, null_class, subclass, LeAll, LeCell, le_usable, le_unusable, LeCells, LeRow, le_unreached, le_reached}
use Rattle.jinja.specs.Join.{meet_within, nearest, is_reference, join_type, join_stack, join_cell, join_cells, join_row}
use Rattle.jinja.specs.TypingLaws.{NearestCommon, Lub, JoinLawsHold}
use Rattle.jinja.proofs.Options.{conflict, some_inj}
use Rattle.jinja.proofs.Climbs.{super_exists, upper_smaller}
use Rattle.jinja.proofs.Order.{le_refl, row_refl}
use Rattle.jinja.proofs.Inheritance.{same_type_is}
use Rattle.jinja.proofs.Bridge.{passed, tested}

module _ {P : Program} (w : WellFormed P) where
  -- a class above c that is not c itself is above its superclass
  above_super : {c x : ℕ} → AtOrBelow P c x → x < c → AtOrBelow P (superclass_of P c) x
  above_super (here i) l = absurd (omega arith)
  above_super (up i s) l = s

  one_up : {c d x : ℕ} → AtOrBelow P c x → AtOrBelow P d x → c < d → AtOrBelow P (superclass_of P d) x
  one_up r s l = above_super s (let k = upper_smaller w r in omega arith)

  falls_by : (c d k : ℕ) → c < d → c + d ≤ suc k → c + superclass_of P d ≤ k
  falls_by c zero k l e = absurd (omega arith)
  falls_by c (suc d) k l e = let z = w.smaller d in omega arith

  meets : (k c d : ℕ) → c + d ≤ k → IsClass P c → IsClass P d → NearestCommon P c d (meet_within P k c d)
  meets zero c d l i j = let a : c ≡ 0 = omega arith in let b : d ≡ c = omega arith in rw b (record { left = here i; right = here i; nearest = λ r s. r })
  meets (suc k) c d l i j =
      go (eqb c d) refl (ltb c d) refl
      (λ q. meets k c (superclass_of P d) (falls_by c d k q l) i (super_exists w d j))
      (λ q. meets k (superclass_of P c) d (let z = falls_by d c k q (omega arith) in omega arith) (super_exists w c i) j)
    where
      go : (b : Bool) → eqb c d ≡ b → (b' : Bool) → ltb c d ≡ b' → (c < d → NearestCommon P c (superclass_of P d) (meet_within P k c (superclass_of P d))) → (d < c → NearestCommon P (superclass_of P c) d (meet_within P k (superclass_of P c) d)) → NearestCommon P c d (cond b c (cond b' (meet_within P k c (superclass_of P d)) (meet_within P k (superclass_of P c) d)))
      go true p b' q f g = let e = eqb-true c d p in rw (← e) (record { left = here i; right = here i; nearest = λ r s. r })
      go false p true q f g = let l = ltb-true c d q in let n = f l in record { left = n.left; right = up j n.right; nearest = λ r s. n.nearest r (one_up r s l) }
      go false p false q f g =
          let ne = eqb-false c d p in
          let le = ltb-false c d q in
          let l : d < c = ⊎_elim (λ h. h) (λ h. absurd (ne (omega arith))) (cases_lt d c) in
          let n = g l in
          record { left = up i n.left; right = n.right; nearest = λ r s. n.nearest (one_up s r l) s }

  near : (c d : ℕ) → IsClass P c → IsClass P d → NearestCommon P c d (nearest P c d)
  unfolding nearest
  near c d i j = meets (c + d) c d (omega arith) i j

  pub record LubType (t u v : Ty) : Type 0 where
    pub left : Le P t v
    pub right : Le P u v
    pub least : (x : Ty) → Le P t x → Le P u x → Le P v x

  same_lub : (t : Ty) → TypeExists P t → LubType t t t
  same_lub t e = record { left = le_refl t e; right = le_refl t e; least = λ x l k. l }

  below_of : {a b : ℕ} → Le P (Class a) (Class b) → AtOrBelow P a b
  below_of (subclass s) = s

  classes_lub : (c d : ℕ) → IsClass P c → IsClass P d → LubType (Class c) (Class d) (Class (nearest P c d))
  classes_lub c d i j =
      let n = near c d i j in
      record { left = subclass n.left; right = subclass n.right; least = λ x l k. least_of n l k }
    where
      least_of : {x : Ty} → NearestCommon P c d (nearest P c d) → Le P (Class c) x → Le P (Class d) x → Le P (Class (nearest P c d)) x
      least_of n (subclass r) k = subclass (n.nearest r (below_of k))

  null_lub : (u : Ty) → TypeExists P u → is_reference u ≡ true → LubType NullType u u
  null_lub Void x e = absurd (false≢true e)
  null_lub Boolean x e = absurd (false≢true e)
  null_lub Integer x e = absurd (false≢true e)
  null_lub NullType x e = same_lub NullType x
  null_lub (Class c) x e = record { left = null_class (ltb-true _ _ x); right = le_refl (Class c) x; least = λ y l k. k }

  class_null : (c : ℕ) → IsClass P c → LubType (Class c) NullType (Class c)
  class_null c i = record { left = subclass (here i); right = null_class i; least = λ x l k. l }

  join_lub : (t u : Ty) {v : Ty} → TypeExists P t → TypeExists P u → join_type P t u ≡ Some v → LubType t u v
  join_lub Void u x y e = let a = tested (same_type Void u) _ e in subst (LubType Void u) (some_inj a.1) (subst (λ z. LubType Void z z) (same_type_is Void u a.0) (same_lub Void refl))
  join_lub Boolean u x y e = let a = tested (same_type Boolean u) _ e in subst (LubType Boolean u) (some_inj a.1) (subst (λ z. LubType Boolean z z) (same_type_is Boolean u a.0) (same_lub Boolean refl))
  join_lub Integer u x y e = let a = tested (same_type Integer u) _ e in subst (LubType Integer u) (some_inj a.1) (subst (λ z. LubType Integer z z) (same_type_is Integer u a.0) (same_lub Integer refl))
  join_lub NullType u x y e = let a = tested (is_reference u) _ e in subst (LubType NullType u) (some_inj a.1) (null_lub u y a.0)
  join_lub (Class c) Void x y e = absurd (conflict e)
  join_lub (Class c) Boolean x y e = absurd (conflict e)
  join_lub (Class c) Integer x y e = absurd (conflict e)
  join_lub (Class c) NullType x y e = subst (LubType (Class c) NullType) (some_inj e) (class_null c (ltb-true _ _ x))
  join_lub (Class c) (Class d) x y e = subst (LubType (Class c) (Class d)) (some_inj e) (classes_lub c d (ltb-true _ _ x) (ltb-true _ _ y))

  -- two types below one have a join
  joins : {t u x : Ty} → Le P t x → Le P u x → (v : Ty) × (join_type P t u ≡ Some v)
  joins void void = (Void, refl)
  joins boolean boolean = (Boolean, refl)
  joins integer integer = (Integer, refl)
  joins null null = (NullType, refl)
  joins (null_class i) (null_class j) = (NullType, refl)
  joins (null_class i) (subclass s) = (_, refl)
  joins (subclass s) (null_class i) = (_, refl)
  joins (subclass s) (subclass r) = (_, refl)

  pub record LubStack (ts us vs : List Ty) : Type 0 where
    pub left : LeAll P ts vs
    pub right : LeAll P us vs
    pub least : (xs : List Ty) → LeAll P ts xs → LeAll P us xs → LeAll P vs xs

  stack_lub : (ts us : List Ty) {vs : List Ty} → AllByRecursion (TypeExists P) ts → AllByRecursion (TypeExists P) us → join_stack P ts us ≡ Some vs → LubStack ts us vs
  stack_lub [] [] x y e = subst (LubStack [] []) (some_inj e) (record { left = nil; right = nil; least = λ xs l r. l })
  stack_lub [] (u ∷ us) x y e = absurd (conflict e)
  stack_lub (t ∷ ts) [] x y e = absurd (conflict e)
  stack_lub (t ∷ ts) (u ∷ us) x y e =
      let a = passed (join_type P t u) _ e in
      let b = passed (join_stack P ts us) _ a.2 in
      let j = join_lub t u x.0 y.0 a.1 in
      let k = stack_lub ts us x.1 y.1 b.1 in
      subst (LubStack (t ∷ ts) (u ∷ us)) (some_inj b.2) (record { left = cons j.left k.left; right = cons j.right k.right; least = λ xs l r. least_of j.least k.least l r })
    where
      least_of : {v : Ty} {vs xs : List Ty} → ((x : Ty) → Le P t x → Le P u x → Le P v x) → ((xs : List Ty) → LeAll P ts xs → LeAll P us xs → LeAll P vs xs) → LeAll P (t ∷ ts) xs → LeAll P (u ∷ us) xs → LeAll P (v ∷ vs) xs
      least_of f g (cons l ls) (cons r rs) = cons (f _ l r) (g _ ls rs)

  stack_joins : {ts us xs : List Ty} → LeAll P ts xs → LeAll P us xs → (vs : List Ty) × (join_stack P ts us ≡ Some vs)
  stack_joins nil nil = ([], refl)
  stack_joins (cons l ls) (cons r rs) = let a = joins l r in let b = stack_joins ls rs in (a.0 ∷ b.0, rw (a.1, b.1))

  pub record LubCell (c d e : Cell) : Type 0 where
    pub left : LeCell P c e
    pub right : LeCell P d e
    pub least : (x : Cell) → LeCell P c x → LeCell P d x → LeCell P e x

  cell_lub : (c d : Cell) → CellExists P c → CellExists P d → LubCell c d (join_cell P c d)
  cell_lub unusable d x y = record { left = le_unusable; right = le_unusable; least = λ z l r. l }
  cell_lub (usable t) unusable x y = record { left = le_unusable; right = le_unusable; least = λ z l r. r }
  cell_lub (usable t) (usable u) x y = go (join_type P t u) refl
    where
      least_of : {v : Ty} {z : Cell} → LubType t u v → LeCell P (usable t) z → LeCell P (usable u) z → LeCell P (usable v) z
      least_of j l le_unusable = le_unusable
      least_of j (le_usable l) (le_usable r) = le_usable (j.least _ l r)

      no_bound : {z : Cell} → join_type P t u ≡ None → LeCell P (usable t) z → LeCell P (usable u) z → LeCell P unusable z
      no_bound e l le_unusable = le_unusable
      no_bound e (le_usable l) (le_usable r) = absurd (conflict (sym e ∙ (joins l r).1))

      go : (o : Option Ty) → join_type P t u ≡ o → LubCell (usable t) (usable u) (maybe o unusable usable)
      go None e = record { left = le_unusable; right = le_unusable; least = λ z l r. no_bound e l r }
      go (Some v) e = let j = join_lub t u x y e in record { left = le_usable j.left; right = le_usable j.right; least = λ z l r. least_of j l r }

  pub record LubCells (cs ds es : List Cell) : Type 0 where
    pub left : LeCells P cs es
    pub right : LeCells P ds es
    pub least : (xs : List Cell) → LeCells P cs xs → LeCells P ds xs → LeCells P es xs

  cells_lub : (cs ds : List Cell) {es : List Cell} → AllByRecursion (CellExists P) cs → AllByRecursion (CellExists P) ds → join_cells P cs ds ≡ Some es → LubCells cs ds es
  cells_lub [] [] x y e = subst (LubCells [] []) (some_inj e) (record { left = nil; right = nil; least = λ xs l r. l })
  cells_lub [] (d ∷ ds) x y e = absurd (conflict e)
  cells_lub (c ∷ cs) [] x y e = absurd (conflict e)
  cells_lub (c ∷ cs) (d ∷ ds) x y e =
      let b = passed (join_cells P cs ds) _ e in
      let j = cell_lub c d x.0 y.0 in
      let k = cells_lub cs ds x.1 y.1 b.1 in
      subst (LubCells (c ∷ cs) (d ∷ ds)) (some_inj b.2) (record { left = cons j.left k.left; right = cons j.right k.right; least = λ xs l r. least_of j k.least l r })
    where
      least_of : {es xs : List Cell} → LubCell c d (join_cell P c d) → ((xs : List Cell) → LeCells P cs xs → LeCells P ds xs → LeCells P es xs) → LeCells P (c ∷ cs) xs → LeCells P (d ∷ ds) xs → LeCells P (join_cell P c d ∷ es) xs
      least_of j g (cons l ls) (cons r rs) = cons (j.least _ l r) (g _ ls rs)

  cells_joins : {cs ds xs : List Cell} → LeCells P cs xs → LeCells P ds xs → (es : List Cell) × (join_cells P cs ds ≡ Some es)
  cells_joins nil nil = ([], refl)
  cells_joins (cons {a = c} l ls) (cons {a = d} r rs) = let b = cells_joins ls rs in (join_cell P c d ∷ b.0, rw b.1)

  row_lub : {M : Owned} {t : Row} (r s : Row) → RowOf P M r → RowOf P M s → join_row P r s ≡ Some t → Lub P r s t
  row_lub unreached s x y e = subst (Lub P unreached s) (some_inj e) (record { left = le_unreached; right = row_refl y; least = λ l k. k })
  row_lub (reached s l) unreached x y e = subst (Lub P (reached s l) unreached) (some_inj e) (record { left = row_refl x; right = le_unreached; least = λ l k. l })
  row_lub (reached s l) (reached s' l') (row x x' n) (row y y' n') e =
      let a = passed (join_stack P s s') _ e in
      let b = passed (join_cells P l l') _ a.2 in
      let j = stack_lub s s' x y a.1 in
      let k = cells_lub l l' x' y' b.1 in
      subst (Lub P (reached s l) (reached s' l')) (some_inj b.2) (record { left = le_reached j.left k.left; right = le_reached j.right k.right; least = λ p q. least_of j.least k.least p q })
    where
      least_of : {a : List Ty} {b : List Cell} {z : Row} → ((xs : List Ty) → LeAll P s xs → LeAll P s' xs → LeAll P a xs) → ((xs : List Cell) → LeCells P l xs → LeCells P l' xs → LeCells P b xs) → LeRow P (reached s l) z → LeRow P (reached s' l') z → LeRow P (reached a b) z
      least_of f g (le_reached p q) (le_reached p' q') = le_reached (f _ p p') (g _ q q')

  row_joins : {r s x : Row} → LeRow P r x → LeRow P s x → (t : Row) × (join_row P r s ≡ Some t)
  row_joins le_unreached q = (_, refl)
  row_joins (le_reached a b) le_unreached = (_, refl)
  row_joins (le_reached a b) (le_reached c d) = let x = stack_joins a c in let y = cells_joins b d in (reached x.0 y.0, rw (x.1, y.1))

pub join_laws : JoinLawsHold
join_laws P w = record { classes = near w; joined = row_lub w; bounded = row_joins w }
