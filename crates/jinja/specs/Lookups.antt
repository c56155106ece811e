-- What a class has: its fields, its own field of a name, and the method that it sees. Assumes nothing.
use Rattle.std.specs.Prelude.{ℕ, zero, suc, ◌+◌, Bool, cond, ◌&&◌, List, [], ◌∷◌, ◌++◌, map, length, take, Some, None, Option, ◌==◌}
use Rattle.std.specs.List.{slice_get}
use Rattle.jinja.specs.declared.program.Field.{Field}
use Rattle.jinja.specs.declared.program.FieldPlace.{FieldPlace}
use Rattle.jinja.specs.Program.{MethodDecl, ClassDecl, Program}
use Rattle.jinja.specs.Types.{same_type, same_types}
use Rattle.jinja.specs.Classes.{maybe, table, class_at, superclass_of}

-- the position of the first item of that name; names are numbers of any width
abbrev pub position : {A : Type 0} → (A → ℕ) → ℕ → List A → Option ℕ
position name n [] = None
position name n (x ∷ xs) = cond (name x == n) (Some 0) (maybe (position name n xs) None (λ i. Some (suc i)))

abbrev pub own_fields : Program → ℕ → List Field
own_fields P c = maybe (class_at P c) [] (λ d. d.fields)

abbrev pub own_methods : Program → ℕ → List MethodDecl
own_methods P c = maybe (class_at P c) [] (λ d. d.methods)

-- the fields of an object of class c, those of its superclasses first; k bounds the way up
abbrev pub fields_within : Program → ℕ → ℕ → List Field
fields_within P zero c = own_fields P c
fields_within P (suc k) c = fields_within P k (superclass_of P c) ++ own_fields P c

unfoldable pub fields_of : Program → ℕ → List Field
fields_of P c = fields_within P c c

-- the field f that c itself declares: where it stands in the row of c and of every class below, and its type
unfoldable pub own_field : Program → ℕ → ℕ → Option FieldPlace
own_field P c f =
    maybe (position (λ (x : Field). x.name) f (own_fields P c)) None (λ i.
    maybe (slice_get (own_fields P c) i) None (λ x.
    Some (record { place = length (fields_of P (superclass_of P c)) + i; ty = x.ty })))

-- a method with the class that declares it
pub record Owned : Type 0 where
  pub owner : ℕ
  pub method : MethodDecl

-- the methods of the classes ds, of which the first has the number c
abbrev pub methods_from : ℕ → List ClassDecl → List Owned
methods_from c [] = []
methods_from c (d ∷ ds) = map (λ m. record { owner = c; method = m }) d.methods ++ methods_from (suc c) ds

-- the methods of a program, by their numbers: counted over all classes in file order
unfoldable pub method_at : Program → ℕ → Option Owned
method_at P k = slice_get (methods_from 0 (table P)) k

abbrev pub count_methods : List ClassDecl → ℕ
count_methods [] = 0
count_methods (d ∷ ds) = length d.methods + count_methods ds

-- the number of the method named m that c itself declares
unfoldable pub own_method : Program → ℕ → ℕ → Option ℕ
own_method P c m =
    maybe (position (λ (x : MethodDecl). x.name) m (own_methods P c)) None (λ j. Some (count_methods (take c (table P)) + j))

abbrev pub sees_within : Program → ℕ → ℕ → ℕ → Option ℕ
sees_within P zero c m = own_method P c m
sees_within P (suc k) c m = maybe (own_method P c m) (sees_within P k (superclass_of P c) m) (λ i. Some i)

-- the number of the method named m that is declared nearest upward from c
unfoldable pub sees : Program → ℕ → ℕ → Option ℕ
sees P c m = sees_within P c c m

-- a method may stand in for the one that it overrides: today its types are the same
abbrev pub overrides : MethodDecl → MethodDecl → Bool
overrides lower upper = same_types lower.params upper.params && same_type lower.result upper.result
