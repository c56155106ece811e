-- The order of types, of registers and of rows. Assumes nothing.
use Rattle.std.specs.Prelude.{ℕ, List, [], ◌∷◌}
use Rattle.jinja.specs.declared.ty.Ty.{Ty}
use Rattle.jinja.specs.declared.ty.Ty.TheVariants.{Void, Boolean, Integer, NullType, Class}
use Rattle.jinja.specs.Program.{Program}
use Rattle.jinja.specs.Classes.{IsClass, AtOrBelow}
use Rattle.jinja.specs.Rows.{Cell, usable, unusable, Row, unreached, reached}

-- two lists of one length, related item by item
pub data Pairwise {A B : Type 0} (R : A → B → Type 0) : List A → List B → Type 0 where
  nil : Pairwise R [] []
  cons : {a : A} {b : B} {xs : List A} {ys : List B} → R a b → Pairwise R xs ys → Pairwise R (a ∷ xs) (b ∷ ys)

-- a type lies below itself, Null's type below every class, and a class below the classes above it
pub data Le (P : Program) : Ty → Ty → Type 0 where
  void : Le P Void Void
  boolean : Le P Boolean Boolean
  integer : Le P Integer Integer
  null : Le P NullType NullType
  null_class : {c : ℕ} → IsClass P c → Le P NullType (Class c)
  subclass : {c d : ℕ} → AtOrBelow P c d → Le P (Class c) (Class d)

pub data Reference : Ty → Type 0 where
  null_reference : Reference NullType
  class_reference : {c : ℕ} → Reference (Class c)

-- stacks, at equal height only
abbrev pub LeAll : Program → List Ty → List Ty → Type 0
LeAll P = Pairwise (Le P)

-- unusable lies above every type
pub data LeCell (P : Program) : Cell → Cell → Type 0 where
  le_usable : {t u : Ty} → Le P t u → LeCell P (usable t) (usable u)
  le_unusable : {c : Cell} → LeCell P c unusable

abbrev pub LeCells : Program → List Cell → List Cell → Type 0
LeCells P = Pairwise (LeCell P)

-- unreached lies below every row
pub data LeRow (P : Program) : Row → Row → Type 0 where
  le_unreached : {r : Row} → LeRow P unreached r
  le_reached : {s s' : List Ty} {l l' : List Cell} → LeAll P s s' → LeCells P l l' → LeRow P (reached s l) (reached s' l')
