-- The class table: numbers, superclasses, and the order of classes. Assumes nothing.
use Rattle.std.specs.Prelude.{ℕ, zero, suc, ◌<◌, Bool, true, cond, ◌&&◌, List, [], ◌∷◌, length, Some, None, Option, ◌==◌, nat_lt}
use Rattle.std.specs.List.{slice_get}
use Rattle.jinja.specs.Program.{ClassDecl, Program}

-- what was found, or another answer
abbrev pub maybe : {A B : Type 0} → Option A → B → (A → B) → B
maybe None b f = b
maybe (Some a) b f = f a

-- Object, NullPointer, ClassCast and OutOfMemory declare nothing and lie under Object
abbrev pub built_in : ClassDecl
built_in = record { superclass = 0; fields = []; methods = [] }

-- every class, by its number
abbrev pub table : Program → List ClassDecl
table P = built_in ∷ built_in ∷ built_in ∷ built_in ∷ P

abbrev pub class_at : Program → ℕ → Option ClassDecl
class_at P c = slice_get (table P) c

abbrev pub IsClass : Program → ℕ → Type 0
IsClass P c = c < length (table P)

abbrev pub is_class : Program → ℕ → Bool
is_class P c = nat_lt c (length (table P))

-- the class that c extends; Object stands for its own, and what is no class for Object
unfoldable pub superclass_of : Program → ℕ → ℕ
superclass_of P c = maybe (class_at P c) 0 (λ d. d.superclass)

-- c is d or lies below it
pub data AtOrBelow (P : Program) : ℕ → ℕ → Type 0 where
  here : {c : ℕ} → IsClass P c → AtOrBelow P c c
  up : {c d : ℕ} → IsClass P c → AtOrBelow P (superclass_of P c) d → AtOrBelow P c d

-- the climb from c arrives at d within k superclasses
abbrev pub climbs : Program → ℕ → ℕ → ℕ → Bool
climbs P zero c d = c == d
climbs P (suc k) c d = cond (c == d) true (climbs P k (superclass_of P c) d)

-- the test of AtOrBelow: a superclass has a smaller number, so c of them suffice
unfoldable pub at_or_below : Program → ℕ → ℕ → Bool
at_or_below P c d = is_class P c && climbs P c c d
