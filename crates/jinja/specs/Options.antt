-- Look-ups and tests one after the other: where one fails there is no answer. Assumes nothing.
use Rattle.std.specs.Prelude.{Bool, true, false, List, [], ◌∷◌, Some, None, Option}

infixl 10 ◌>>=◌
infixl 10 ◌>>◌
-- what follows a look-up
abbrev pub ◌>>=◌ : {A B : Type 0} → Option A → (A → Option B) → Option B
None >>= f = None
Some a >>= f = f a

-- what follows a test
abbrev pub ◌>>◌ : {A : Type 0} → Bool → Option A → Option A
true >> o = o
false >> o = None

-- the first item and the others
pub data Top (A : Type 0) : Type 0 where
  top : A → List A → Top A

abbrev pub top_of : {A : Type 0} → List A → Option (Top A)
top_of [] = None
top_of (a ∷ rest) = Some (top a rest)

-- the first two items and the others
pub data Two (A : Type 0) : Type 0 where
  two : A → A → List A → Two A

abbrev pub two_of : {A : Type 0} → List A → Option (Two A)
two_of [] = None
two_of (a ∷ []) = None
two_of (a ∷ b ∷ rest) = Some (two a b rest)
