-- Types, registers and rows are partially ordered. Assumes nothing.
use Rattle.std.proofs.Common.{◌≡◌, List, refl, ap}
use Rattle.std.specs.List.{AllByRecursion}
use Rattle.std.proofs.lemmas.Bool.{ltb-true}
use Rattle.jinja.specs.declared.ty.Ty.{Ty}
use Rattle.jinja.specs.declared.ty.Ty.TheVariants.{Void, Boolean, Integer, NullType, Class}
use Rattle.jinja.specs.Program.{Program}
use Rattle.jinja.specs.Classes.{here}
use Rattle.jinja.specs.Lookups.{Owned}
use Rattle.jinja.specs.WellFormed.{TypeExists, WellFormed}
use Rattle.jinja.specs.Rows.{Cell, usable, unusable, Row, CellExists, RowOf, no_row, row}
use Rattle.jinja.specs.Order.{nil, cons, Le, void, boolean, integer, null, null_class, subclass, Reference, null_reference, class_reference, LeAll, LeCell, le_usable, le_unusable, LeCells, LeRow, le_unreached, le_reached}
use Rattle.jinja.specs.TypingLaws.{RowOrderHolds, LeastUnique}
use Rattle.jinja.proofs.Pairwise.{pairs_refl, pairs_trans}
use Rattle.jinja.proofs.Climbs.{below_trans, below_antisym, upper_exists}

module _ {P : Program} where
  pub le_refl : (t : Ty) → TypeExists P t → Le P t t
  le_refl Void e = void
  le_refl Boolean e = boolean
  le_refl Integer e = integer
  le_refl NullType e = null
  le_refl (Class c) e = subclass (here (ltb-true _ _ e))

  pub le_trans : {t u v : Ty} → Le P t u → Le P u v → Le P t v
  le_trans void k = k
  le_trans boolean k = k
  le_trans integer k = k
  le_trans null k = k
  le_trans (null_class i) (subclass s) = null_class (upper_exists s)
  le_trans (subclass r) (subclass s) = subclass (below_trans r s)

  pub all_refl : (ts : List Ty) → AllByRecursion (TypeExists P) ts → LeAll P ts ts
  all_refl ts e = pairs_refl le_refl ts e

  pub all_trans : {ts us vs : List Ty} → LeAll P ts us → LeAll P us vs → LeAll P ts vs
  all_trans l k = pairs_trans (λ a b c. le_trans) l k

  cell_refl : (c : Cell) → CellExists P c → LeCell P c c
  cell_refl (usable t) e = le_usable (le_refl t e)
  cell_refl unusable e = le_unusable

  cell_trans : {a b c : Cell} → LeCell P a b → LeCell P b c → LeCell P a c
  cell_trans l le_unusable = le_unusable
  cell_trans (le_usable l) (le_usable k) = le_usable (le_trans l k)

  pub cells_refl : (cs : List Cell) → AllByRecursion (CellExists P) cs → LeCells P cs cs
  cells_refl cs e = pairs_refl cell_refl cs e

  pub cells_trans : {a b c : List Cell} → LeCells P a b → LeCells P b c → LeCells P a c
  cells_trans l k = pairs_trans (λ a b c. cell_trans) l k

  pub row_refl : {M : Owned} {r : Row} → RowOf P M r → LeRow P r r
  row_refl no_row = le_unreached
  row_refl (row s l n) = le_reached (all_refl _ s) (cells_refl _ l)

  pub row_trans : {r s t : Row} → LeRow P r s → LeRow P s t → LeRow P r t
  row_trans le_unreached k = le_unreached
  row_trans (le_reached a b) (le_reached c d) = le_reached (all_trans a c) (cells_trans b d)

  pub reference_down : {t u : Ty} → Le P t u → Reference u → Reference t
  reference_down void r = elim r [ ]
  reference_down boolean r = elim r [ ]
  reference_down integer r = elim r [ ]
  reference_down null r = null_reference
  reference_down (null_class i) r = null_reference
  reference_down (subclass s) r = class_reference

module _ {P : Program} (w : WellFormed P) where
  le_antisym : {t u : Ty} → Le P t u → Le P u t → t ≡ u
  le_antisym void k = refl
  le_antisym boolean k = refl
  le_antisym integer k = refl
  le_antisym null k = refl
  le_antisym (null_class i) k = elim k [ ]
  le_antisym (subclass r) (subclass s) = ap Class (below_antisym w r s)

  all_antisym : {ts us : List Ty} → LeAll P ts us → LeAll P us ts → ts ≡ us
  all_antisym nil nil = refl
  all_antisym (cons l ls) (cons k ks) = rw (le_antisym l k, all_antisym ls ks)

  cell_antisym : {c d : Cell} → LeCell P c d → LeCell P d c → c ≡ d
  cell_antisym (le_usable l) (le_usable k) = ap usable (le_antisym l k)
  cell_antisym le_unusable le_unusable = refl

  cells_antisym : {cs ds : List Cell} → LeCells P cs ds → LeCells P ds cs → cs ≡ ds
  cells_antisym nil nil = refl
  cells_antisym (cons l ls) (cons k ks) = rw (cell_antisym l k, cells_antisym ls ks)

  row_antisym : {r s : Row} → LeRow P r s → LeRow P s r → r ≡ s
  row_antisym le_unreached le_unreached = refl
  row_antisym (le_reached a b) (le_reached c d) = rw (all_antisym a c, cells_antisym b d)

pub row_order : RowOrderHolds
row_order P w = record { reflexive = row_refl; transitive = row_trans; antisymmetric = row_antisym w }

pub least_unique : LeastUnique
least_unique P w M rows other l k pc i = row_antisym w (l.least other k.typing pc i) (k.least rows l.typing pc i)
