-- Run values: their types in a heap, the types that they fit, and the values that things start with. Assumes nothing.
use Rattle.std.specs.Prelude.{ℕ, Bool, true, false, not, ◌&&◌, List, [], ◌∷◌, map, ℤ, pos, negsuc, Some, None, Option, ◌==◌}
use Rattle.std.specs.List.{slice_get}
use Rattle.heap.specs.declared.value.Value.{Value}
use Rattle.heap.specs.declared.value.Value.TheVariants as value
use Rattle.heap.specs.Meaning.{Meaning}
use Rattle.jinja.specs.declared.ty.Ty.{Ty}
use Rattle.jinja.specs.declared.ty.Ty.TheVariants.{Void, Boolean, Integer, NullType, Class}
use Rattle.jinja.specs.declared.instr.Literal.{Literal}
use Rattle.jinja.specs.declared.instr.Literal.TheVariants as literal
use Rattle.jinja.specs.declared.program.Field.{Field}
use Rattle.jinja.specs.Program.{Program}
use Rattle.jinja.specs.Classes.{maybe}
use Rattle.jinja.specs.Lookups.{fields_of}
use Rattle.jinja.specs.Transfer.{type_le}

-- the class of the object at an address
unfoldable pub class_of : Meaning → ℕ → Option ℕ
class_of h a = maybe (slice_get h.objects a) None (λ o. Some o.class)

-- a value's own type; an address has its object's class
abbrev pub value_type : Meaning → Value → Option Ty
value_type h value.Unit = Some Void
value_type h value.Null = Some NullType
value_type h (value.Bool b) = Some Boolean
value_type h (value.Int z) = Some Integer
value_type h (value.Addr a) = maybe (class_of h a) None (λ c. Some (Class c))

-- a value fits the types at or above its own
unfoldable pub fits : Program → Meaning → Value → Ty → Bool
fits P h v t = maybe (value_type h v) false (λ u. type_le P u t)

-- as many values as types, and each fits
abbrev pub fit_all : Program → Meaning → List Value → List Ty → Bool
fit_all P h [] [] = true
fit_all P h [] (t ∷ ts) = false
fit_all P h (v ∷ vs) [] = false
fit_all P h (v ∷ vs) (t ∷ ts) = fits P h v t && fit_all P h vs ts

abbrev pub literal_value : Literal → Value
literal_value literal.Unit = value.Unit
literal_value literal.Null = value.Null
literal_value (literal.Boolean b) = value.Bool b
literal_value (literal.Integer z) = value.Int z

-- what a field of this type starts with
abbrev pub start_value : Ty → Value
start_value Void = value.Unit
start_value Boolean = value.Bool false
start_value Integer = value.Int (pos 0)
start_value NullType = value.Null
start_value (Class c) = value.Null

-- the row of a new object of class c, superclass fields first
abbrev pub start_row : Program → ℕ → List Value
start_row P c = map (λ (f : Field). start_value f.ty) (fields_of P c)

-- two values are one: of the same kind, with the same content
abbrev pub same_boolean : Bool → Bool → Bool
same_boolean true c = c
same_boolean false c = not c

abbrev pub same_integer : ℤ → ℤ → Bool
same_integer (pos m) (pos n) = m == n
same_integer (pos m) (negsuc n) = false
same_integer (negsuc m) (pos n) = false
same_integer (negsuc m) (negsuc n) = m == n

abbrev pub is_unit : Value → Bool
is_unit value.Unit = true
is_unit value.Null = false
is_unit (value.Bool b) = false
is_unit (value.Int z) = false
is_unit (value.Addr a) = false

abbrev pub is_null : Value → Bool
is_null value.Unit = false
is_null value.Null = true
is_null (value.Bool b) = false
is_null (value.Int z) = false
is_null (value.Addr a) = false

abbrev pub is_boolean : Bool → Value → Bool
is_boolean b value.Unit = false
is_boolean b value.Null = false
is_boolean b (value.Bool c) = same_boolean b c
is_boolean b (value.Int z) = false
is_boolean b (value.Addr a) = false

abbrev pub is_integer : ℤ → Value → Bool
is_integer z value.Unit = false
is_integer z value.Null = false
is_integer z (value.Bool b) = false
is_integer z (value.Int y) = same_integer z y
is_integer z (value.Addr a) = false

abbrev pub is_address : ℕ → Value → Bool
is_address a value.Unit = false
is_address a value.Null = false
is_address a (value.Bool b) = false
is_address a (value.Int z) = false
is_address a (value.Addr b) = a == b

abbrev pub same_value : Value → Value → Bool
same_value value.Unit w = is_unit w
same_value value.Null w = is_null w
same_value (value.Bool b) w = is_boolean b w
same_value (value.Int z) w = is_integer z w
same_value (value.Addr a) w = is_address a w
