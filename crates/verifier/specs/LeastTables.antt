-- The least well-typing of a method as numbers of a workspace. Assumes nothing.
use Rattle.std.specs.Prelude.{◌≡◌, ℕ, zero, suc, ◌-◌, ◌*◌, ◌<◌, ◌≤◌, List, [], ◌++◌, length, replicate, Some, None}
use Rattle.jinja.specs.Program.{Program}
use Rattle.jinja.specs.Lookups.{Owned, method_at, sees}
use Rattle.jinja.specs.Rows.{Table}
use Rattle.jinja.specs.WellTyping.{Least}
use Rattle.type_rows.specs.Numbers.{absent, width, row_numbers}
use Rattle.verifier.specs.declared.fault.LeastTableFault.{LeastTableFault}
use Rattle.verifier.specs.declared.fault.LeastTableFault.TheVariants.{Short, Unseen}
use Rattle.verifier.specs.Limits.{workspace_length}

-- the rows of the first n instructions, one after another
abbrev pub table_numbers : Table → ℕ → List ℕ
table_numbers rows zero = []
table_numbers rows (suc n) = table_numbers rows n ++ row_numbers (rows n)

-- there is a method of that number
abbrev pub HasMethod : Program → ℕ → Type 0
HasMethod P k = (M : Owned) × (method_at P k ≡ Some M)

-- the workspace ws' shows the least well-typing of the method k, and is absent behind its rows
pub record TableWritten (P : Program) (k : ℕ) (ws ws' : List ℕ) : Type 0 where
  pub method : Owned
  pub stands : method_at P k ≡ Some method
  pub rows : Table
  pub least : Least P method rows
  pub numbers : ws' ≡ table_numbers rows (length method.method.code) ++ replicate (length ws - length method.method.code * width) absent

-- it is the method that class c sees under the name m
pub record LeastWritten (P : Program) (c m : ℕ) (ws ws' : List ℕ) : Type 0 where
  pub room : workspace_length ≤ length ws
  pub number : ℕ
  pub seen : sees P c m ≡ Some number
  pub written : TableWritten P number ws ws'

-- the workspace is too short; or, where it is not, class c sees no method of that name. Nothing changes
pub record TooShort (ws ws' : List ℕ) : Type 0 where
  pub short : length ws < workspace_length
  pub untouched : ws' ≡ ws

pub record NotSeen (P : Program) (c m : ℕ) (ws ws' : List ℕ) : Type 0 where
  pub room : workspace_length ≤ length ws
  pub unseen : sees P c m ≡ None
  pub untouched : ws' ≡ ws

abbrev pub NotWritten : LeastTableFault → Program → ℕ → ℕ → List ℕ → List ℕ → Type 0
NotWritten Short P c m ws ws' = TooShort ws ws'
NotWritten Unseen P c m ws ws' = NotSeen P c m ws ws'
