-- What every program in memory keeps, as far as typing and the machine rest on it. Assumes nothing.
use Rattle.std.specs.Prelude.{◌≡◌, ℕ, suc, ◌<◌, ◌≤◌, true, length, Some}
use Rattle.std.specs.List.{slice_get}
use Rattle.heap.specs.Meaning.{row_limit}
use Rattle.jinja.specs.declared.ty.Ty.{Ty}
use Rattle.jinja.specs.declared.program.Field.{Field}
use Rattle.jinja.specs.Program.{Program}
use Rattle.jinja.specs.Types.{type_exists}
use Rattle.jinja.specs.Classes.{table, superclass_of}
use Rattle.jinja.specs.Lookups.{Owned, own_fields, fields_of, method_at, own_method, sees, overrides}

-- t is no class, or a class of the program
abbrev pub TypeExists : Program → Ty → Type 0
TypeExists P t = type_exists (length (table P)) t ≡ true

pub record WellFormed (P : Program) : Type 0 where
  -- a superclass has a smaller number, so every way up ends at Object
  pub smaller : (c : ℕ) → superclass_of P (suc c) < suc c
  -- an object's row is short enough for every heap
  pub few_fields : (c : ℕ) → length (fields_of P c) ≤ row_limit
  pub field_types : {f : Field} (c i : ℕ) → slice_get (own_fields P c) i ≡ Some f → TypeExists P f.ty
  pub param_types : {N : Owned} {t : Ty} (k i : ℕ) → method_at P k ≡ Some N → slice_get N.method.params i ≡ Some t → TypeExists P t
  pub result_types : {N : Owned} (k : ℕ) → method_at P k ≡ Some N → TypeExists P N.method.result
  -- there is an instruction to begin with
  pub some_code : {N : Owned} (k : ℕ) → method_at P k ≡ Some N → 0 < length N.method.code
  -- a method may stand in for the one of its name that the superclass sees
  pub overriding : {k k' : ℕ} {N N' : Owned} (c m : ℕ) → own_method P c m ≡ Some k → sees P (superclass_of P c) m ≡ Some k' → method_at P k ≡ Some N → method_at P k' ≡ Some N' → overrides N.method N'.method ≡ true
