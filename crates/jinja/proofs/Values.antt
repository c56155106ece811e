-- Values fit what lies above and what the heap grows to, and the tests decide it. Assumes nothing.
use Rattle.std.proofs.Common.{◌≡◌, ℕ, zero, suc, true, false, List, [], ◌∷◌, ◌++◌, map, replicate, Some, None, Option, sym, refl, subst}
use Rattle.std.specs.List.{AllByRecursion}
use Rattle.std.proofs.lemmas.Bool.{lt-ltb, ltb-true, and_from, and_parts, false≢true}
use Rattle.heap.specs.declared.value.Value.{Value}
use Rattle.heap.specs.declared.value.Value.TheVariants as value
use Rattle.heap.specs.Meaning.{Meaning}
use Rattle.jinja.specs.declared.ty.Ty.{Ty}
use Rattle.jinja.specs.declared.ty.Ty.TheVariants.{Void, Boolean, Integer, NullType, Class}
use Rattle.jinja.specs.declared.instr.Literal.{Literal}
use Rattle.jinja.specs.declared.instr.Literal.TheVariants as literal
use Rattle.jinja.specs.declared.program.Field.{Field}
use Rattle.jinja.specs.Program.{Program}
use Rattle.jinja.specs.Classes.{maybe}
use Rattle.jinja.specs.WellFormed.{TypeExists, WellFormed}
use Rattle.jinja.specs.Rows.{Cell, usable, unusable}
use Rattle.jinja.specs.Order.{nil, cons, Le, void, boolean, integer, null, null_class, subclass, LeAll, LeCell, le_usable, le_unusable, LeCells}
use Rattle.jinja.specs.Rule.{literal_type}
use Rattle.jinja.specs.Transfer.{type_le}
use Rattle.jinja.specs.Values.{class_of, value_type, fits, fit_all, literal_value, start_value}
use Rattle.jinja.specs.Fits.{Fits, unit_fits, null_fits, null_fits_class, boolean_fits, integer_fits, address_fits, FitAll, FitsCell, fits_usable, fits_unusable, FitCells}
use Rattle.jinja.proofs.Options.{some_inj, maybe_found}
use Rattle.jinja.proofs.Climbs.{below_trans, below_tested, upper_exists}
use Rattle.jinja.proofs.Pairwise.{pairs_map, pairs_trans}
use Rattle.jinja.proofs.Bridge.{le_found}

-- every object keeps its class
abbrev pub Grows : Meaning → Meaning → Type 0
Grows h h' = (a c : ℕ) → class_of h a ≡ Some c → class_of h' a ≡ Some c

module _ {P : Program} where
  pub fit_up : {h : Meaning} {v : Value} {t u : Ty} → Fits P h v t → Le P t u → Fits P h v u
  fit_up f void = f
  fit_up f boolean = f
  fit_up f integer = f
  fit_up f null = f
  fit_up null_fits (null_class i) = null_fits_class i
  fit_up (null_fits_class i) (subclass s) = null_fits_class (upper_exists s)
  fit_up (address_fits e r) (subclass s) = address_fits e (below_trans r s)

  pub all_up : {h : Meaning} {vs : List Value} {ts us : List Ty} → FitAll P h vs ts → LeAll P ts us → FitAll P h vs us
  all_up fs ls = pairs_trans (λ a b c. fit_up) fs ls

  cell_up : {h : Meaning} {v : Value} {c d : Cell} → FitsCell P h v c → LeCell P c d → FitsCell P h v d
  cell_up f le_unusable = fits_unusable
  cell_up (fits_usable f) (le_usable l) = fits_usable (fit_up f l)

  pub cells_up : {h : Meaning} {vs : List Value} {cs ds : List Cell} → FitCells P h vs cs → LeCells P cs ds → FitCells P h vs ds
  cells_up fs ls = pairs_trans (λ a b c. cell_up) fs ls

  pub fit_grow : {h h' : Meaning} {v : Value} {t : Ty} → Grows h h' → Fits P h v t → Fits P h' v t
  fit_grow g unit_fits = unit_fits
  fit_grow g null_fits = null_fits
  fit_grow g (null_fits_class i) = null_fits_class i
  fit_grow g boolean_fits = boolean_fits
  fit_grow g integer_fits = integer_fits
  fit_grow g (address_fits e s) = address_fits (g _ _ e) s

  pub all_grow : {h h' : Meaning} {vs : List Value} {ts : List Ty} → Grows h h' → FitAll P h vs ts → FitAll P h' vs ts
  all_grow g fs = pairs_map (λ a b. fit_grow g) fs

  cell_grow : {h h' : Meaning} {v : Value} {c : Cell} → Grows h h' → FitsCell P h v c → FitsCell P h' v c
  cell_grow g (fits_usable f) = fits_usable (fit_grow g f)
  cell_grow g fits_unusable = fits_unusable

  pub cells_grow : {h h' : Meaning} {vs : List Value} {cs : List Cell} → Grows h h' → FitCells P h vs cs → FitCells P h' vs cs
  cells_grow g fs = pairs_map (λ a b. cell_grow g) fs

  pub literal_fits : {h : Meaning} (v : Literal) → Fits P h (literal_value v) (literal_type v)
  literal_fits literal.Unit = unit_fits
  literal_fits literal.Null = null_fits
  literal_fits (literal.Boolean b) = boolean_fits
  literal_fits (literal.Integer z) = integer_fits

  start_fits : {h : Meaning} (t : Ty) → TypeExists P t → Fits P h (start_value t) t
  start_fits Void e = unit_fits
  start_fits Boolean e = boolean_fits
  start_fits Integer e = integer_fits
  start_fits NullType e = null_fits
  start_fits (Class c) e = null_fits_class (ltb-true _ _ e)

  pub starts_fit : {h : Meaning} (fs : List Field) → AllByRecursion (λ (f : Field). TypeExists P f.ty) fs → FitAll P h (map (λ (f : Field). start_value f.ty) fs) (map (λ (f : Field). f.ty) fs)
  starts_fit [] e = nil
  starts_fit (f ∷ fs) e = cons (start_fits f.ty e.0) (starts_fit fs e.1)

  -- arguments and extras in the registers of a new frame
  pub params_fit : {h : Meaning} {vs : List Value} {ts : List Ty} (x : ℕ) → FitAll P h vs ts → FitCells P h (vs ++ replicate x value.Unit) (map usable ts ++ replicate x unusable)
  params_fit zero nil = nil
  params_fit (suc x) nil = cons fits_unusable (params_fit x nil)
  params_fit x (cons f fs) = cons (fits_usable f) (params_fit x fs)

module _ {P : Program} (w : WellFormed P) where
  pub fits_tested : {h : Meaning} {v : Value} {t : Ty} → Fits P h v t → fits P h v t ≡ true
  unfolding fits
  fits_tested unit_fits = refl
  fits_tested null_fits = refl
  fits_tested (null_fits_class i) = lt-ltb _ _ i
  fits_tested boolean_fits = refl
  fits_tested integer_fits = refl
  fits_tested (address_fits e s) = rw (e, below_tested w s)

  pub fit_all_tested : {h : Meaning} {vs : List Value} {ts : List Ty} → FitAll P h vs ts → fit_all P h vs ts ≡ true
  fit_all_tested nil = refl
  fit_all_tested (cons f fs) = and_from _ _ (fits_tested f) (fit_all_tested fs)

  class_fits : {h : Meaning} {a c : ℕ} {t : Ty} → class_of h a ≡ Some c → Le P (Class c) t → Fits P h (value.Addr a) t
  class_fits e (subclass s) = address_fits e s

  own_fits : (h : Meaning) (v : Value) {t u : Ty} → value_type h v ≡ Some u → Le P u t → Fits P h v t
  own_fits h value.Unit {t} e l = fit_up unit_fits (subst (λ x. Le P x t) (sym (some_inj e)) l)
  own_fits h value.Null {t} e l = fit_up null_fits (subst (λ x. Le P x t) (sym (some_inj e)) l)
  own_fits h (value.Bool b) {t} e l = fit_up boolean_fits (subst (λ x. Le P x t) (sym (some_inj e)) l)
  own_fits h (value.Int z) {t} e l = fit_up integer_fits (subst (λ x. Le P x t) (sym (some_inj e)) l)
  own_fits h (value.Addr a) {t} e l = let r = maybe_found (class_of h a) _ e in class_fits r.1 (subst (λ x. Le P x t) (sym (some_inj r.2)) l)

  pub fits_found : (h : Meaning) (v : Value) (t : Ty) → fits P h v t ≡ true → Fits P h v t
  unfolding fits
  fits_found h v t e = go (value_type h v) refl e
    where
      go : (o : Option Ty) → value_type h v ≡ o → maybe o false (λ u. type_le P u t) ≡ true → Fits P h v t
      go None q e = absurd (false≢true e)
      go (Some u) q e = own_fits h v q (le_found w u t e)

  pub fit_all_found : (h : Meaning) (vs : List Value) (ts : List Ty) → fit_all P h vs ts ≡ true → FitAll P h vs ts
  fit_all_found h [] [] e = nil
  fit_all_found h [] (t ∷ ts) e = absurd (false≢true e)
  fit_all_found h (v ∷ vs) [] e = absurd (false≢true e)
  fit_all_found h (v ∷ vs) (t ∷ ts) e = let p = and_parts (fits P h v t) (fit_all P h vs ts) e in cons (fits_found h v t p.0) (fit_all_found h vs ts p.1)
