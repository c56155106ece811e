-- A row that rises can then rise less often. Assumes nothing.
use Rattle.std.proofs.Common.{◌≡◌, ℕ, zero, suc, ◌+◌, ◌*◌, ◌<◌, ◌≤◌, ◌⊎◌, List, [], ◌∷◌, length, sym, refl, ap, ◌∙◌, inl, inr, ⊎_elim, arith}
use Rattle.std.specs.List.{AllByRecursion}
use Rattle.std.proofs.lemmas.Nat.{mul-le}
use Rattle.std.proofs.lemmas.Bool.{cases_eq, lt-ltb, ltb-true}
use Rattle.jinja.specs.declared.ty.Ty.{Ty}
use Rattle.jinja.specs.declared.ty.Ty.TheVariants.{Void, Boolean, Integer, NullType, Class}
use Rattle.jinja.specs.Program.{Program}
use Rattle.jinja.specs.Classes.{table}
use Rattle.jinja.specs.Lookups.{Owned}
use Rattle.jinja.specs.WellFormed.{TypeExists, WellFormed}
use Rattle.jinja.specs.Rows.{Cell, usable, unusable, Row, reached, registers, CellExists, RowOf, no_row, row}
use Rattle.jinja.specs.Order.{Pairwise, nil, cons, Le, void, boolean, integer, null, null_class, subclass, LeCell, le_usable, le_unusable, LeRow, le_unreached, le_reached}
use Rattle.jinja.specs.Rising.{Allowed, unreached_allowed, reached_allowed, type_left, cell_left, sum_of, most_left, row_left, sum_below}
use Rattle.jinja.proofs.Climbs.{upper_exists, upper_smaller}
use Rattle.jinja.proofs.Pairwise.{pairs_length}

-- what each item of the upper list is
upper_all : {A : Type 0} {Q : A → Type 0} {R : A → A → Type 0} {xs ys : List A} → ((a b : A) → R a b → Q b) → Pairwise R xs ys → AllByRecursion Q ys
upper_all f nil = tt
upper_all f (cons r rs) = (f _ _ r, upper_all f rs)

-- what lies above a reached row of the method is a row of the method, of the same height
module _ {P : Program} where
  upper_type : {t u : Ty} → Le P t u → TypeExists P u
  upper_type void = refl
  upper_type boolean = refl
  upper_type integer = refl
  upper_type null = refl
  upper_type (null_class i) = lt-ltb _ _ i
  upper_type (subclass s) = lt-ltb _ _ (upper_exists s)

  upper_cell : {c d : Cell} → LeCell P c d → CellExists P d
  upper_cell (le_usable l) = upper_type l
  upper_cell le_unusable = tt

  pub above_allowed : {M : Owned} {st : List Ty} {lt : List Cell} {r : Row} → Allowed P M (reached st lt) → LeRow P (reached st lt) r → Allowed P M r
  above_allowed (reached_allowed (row s l n) h) (le_reached a b) =
      let p = pairs_length a in
      let q = pairs_length b in
      reached_allowed (row (upper_all (λ t u. upper_type) a) (upper_all (λ c d. upper_cell) b) (sym q ∙ n)) (omega arith)

  pub allowed_row : {M : Owned} {r : Row} → Allowed P M r → RowOf P M r
  allowed_row unreached_allowed = no_row
  allowed_row (reached_allowed r h) = r

-- lists of which each item stayed or fell, and whose sum fell unless all stayed
module _ {A : Type 0} {R : A → A → Type 0} (f : A → ℕ) (item : (a b : A) → R a b → (a ≡ b) ⊎ (f b < f a)) where
  sum_stays_or_falls : {xs ys : List A} → Pairwise R xs ys → (xs ≡ ys) ⊎ (sum_of f ys < sum_of f xs)
  sum_stays_or_falls nil = inl refl
  sum_stays_or_falls (cons {a} {b} {xs} {ys} r rs) =
      ⊎_elim
      (λ (e : a ≡ b). ⊎_elim
      (λ (es : xs ≡ ys). inl (rw (e, es)))
      (λ (ls : sum_of f ys < sum_of f xs). let q = ap f e in inr (omega arith))
      (sum_stays_or_falls rs))
      (λ (l : f b < f a). ⊎_elim
      (λ (es : xs ≡ ys). let q = ap (sum_of f) es in inr (omega arith))
      (λ (ls : sum_of f ys < sum_of f xs). inr (omega arith))
      (sum_stays_or_falls rs))
      (item a b r)

-- a sum of items that are at most n
sum_at_most : {A : Type 0} {Q : A → Type 0} (f : A → ℕ) (n : ℕ) → ((a : A) → Q a → f a ≤ n) → (xs : List A) → AllByRecursion Q xs → sum_of f xs ≤ length xs * n
sum_at_most f n h [] q = omega arith
sum_at_most f n h (x ∷ xs) q = let a = h x q.0 in let b = sum_at_most f n h xs q.1 in omega arith

products : (a b h r n : ℕ) → a ≤ h → b ≡ r → a * n + b * n ≤ (h + r) * n
products a b h r n l e = let s : a + b ≤ h + r = omega arith in let m = mul-le (a + b) n (h + r) n s (omega arith) in omega arith

module _ (P : Program) where
  type_at_most : (t : Ty) → TypeExists P t → type_left P t ≤ suc (length (table P))
  type_at_most Void e = omega arith
  type_at_most Boolean e = omega arith
  type_at_most Integer e = omega arith
  type_at_most NullType e = omega arith
  type_at_most (Class c) e = let l = ltb-true c (length (table P)) e in omega arith

  cell_at_most : (c : Cell) → CellExists P c → cell_left P c ≤ suc (length (table P))
  cell_at_most (usable Void) e = omega arith
  cell_at_most (usable Boolean) e = omega arith
  cell_at_most (usable Integer) e = omega arith
  cell_at_most (usable NullType) e = omega arith
  cell_at_most (usable (Class c)) e = let l = ltb-true c (length (table P)) e in omega arith
  cell_at_most unusable e = omega arith

  reached_at_most : {M : Owned} {st : List Ty} {lt : List Cell} → RowOf P M (reached st lt) → length st ≤ M.method.height → row_left P M (reached st lt) ≤ most_left P M
  reached_at_most {M} {st} {lt} (row s l n) h =
      let a = sum_at_most (type_left P) (suc (length (table P))) type_at_most st s in
      let b = sum_at_most (cell_left P) (suc (length (table P))) cell_at_most lt l in
      let c = products (length st) (length lt) M.method.height (registers M) (suc (length (table P))) h n in
      omega arith

module _ {P : Program} (w : WellFormed P) where
  type_falls : {t u : Ty} → Le P t u → (t ≡ u) ⊎ (type_left P u < type_left P t)
  type_falls void = inl refl
  type_falls boolean = inl refl
  type_falls integer = inl refl
  type_falls null = inl refl
  type_falls (null_class i) = inr i
  type_falls (subclass {c} {d} s) = ⊎_elim (λ (e : c ≡ d). inl (ap Class e)) (λ (ne : c ≡ d → ⊥). let l = upper_smaller w s in inr (omega arith)) (cases_eq c d)

  cell_falls : {c d : Cell} → LeCell P c d → (c ≡ d) ⊎ (cell_left P d < cell_left P c)
  cell_falls (le_usable l) = ⊎_elim (λ e. inl (ap usable e)) (λ k. inr (omega arith)) (type_falls l)
  cell_falls {c = usable t} le_unusable = inr (omega arith)
  cell_falls {c = unusable} le_unusable = inl refl

  -- a row below another is that row, or can rise more often
  pub row_falls : {M : Owned} {r s : Row} → Allowed P M s → LeRow P r s → (r ≡ s) ⊎ (row_left P M s < row_left P M r)
  row_falls unreached_allowed le_unreached = inl refl
  row_falls {M} (reached_allowed {st} {lt} x h) le_unreached = let l : row_left P M (reached st lt) ≤ most_left P M = reached_at_most P {M = M} x h in inr (omega arith)
  row_falls x (le_reached {s} {s'} {l} {l'} a b) =
      ⊎_elim
      (λ (e : s ≡ s'). ⊎_elim
      (λ (q : l ≡ l'). inl (rw (e, q)))
      (λ (q : sum_of (cell_left P) l' < sum_of (cell_left P) l). let z = ap (sum_of (type_left P)) e in inr (omega arith))
      (sum_stays_or_falls (cell_left P) (λ c d. cell_falls) b))
      (λ (e : sum_of (type_left P) s' < sum_of (type_left P) s). ⊎_elim
      (λ (q : l ≡ l'). let z = ap (sum_of (cell_left P)) q in inr (omega arith))
      (λ (q : sum_of (cell_left P) l' < sum_of (cell_left P) l). inr (omega arith))
      (sum_stays_or_falls (cell_left P) (λ c d. cell_falls) b))
      (sum_stays_or_falls (type_left P) (λ t u. type_falls) a)

-- a sum of which no part rose, and one fell
sum_below_rises : (n : ℕ) (f h : ℕ → ℕ) → ((j : ℕ) → h j ≤ f j) → sum_below n h ≤ sum_below n f
sum_below_rises zero f h l = omega arith
sum_below_rises (suc n) f h l = let a = l n in let b = sum_below_rises n f h l in omega arith

pub sum_below_falls : (n k : ℕ) (f h : ℕ → ℕ) → k < n → h k < f k → ((j : ℕ) → h j ≤ f j) → sum_below n h < sum_below n f
sum_below_falls zero k f h i less l = absurd (omega arith)
sum_below_falls (suc n) k f h i less l =
    ⊎_elim
    (λ (e : k ≡ n). let a : h n < f n = rw (← e) less in let b = sum_below_rises n f h l in omega arith)
    (λ (ne : k ≡ n → ⊥). let a = l n in let b = sum_below_falls n k f h (omega arith) less l in omega arith)
    (cases_eq k n)
