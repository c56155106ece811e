-- What files are, with no word of how they are read.
use Rattle.std.specs.Prelude.{◌≡◌, ℕ, ◌+◌, ◌<◌, ◌≤◌, true, List, ◌++◌, length, take, Ok, Err, ◌≢◌}
use Rattle.number.specs.declared.fault.NumberFault.TheVariants.{Cut}
use Rattle.number.specs.Laws.{AllBytes}
use Rattle.number.specs.Numbers.{most_groups}
use Rattle.jinja.specs.Program.{Program}
use Rattle.jinja.specs.WellFormed.{WellFormed}
use Rattle.format.specs.declared.fault.TableFault.{TableFault}
use Rattle.format.specs.declared.fault.TableFault.TheVariants.{Number}
use Rattle.format.specs.Faults.{table_fault_number, table_fault_place}
use Rattle.format.specs.Encode.{encode}
use Rattle.format.specs.Rules.{keeps}
use Rattle.format.specs.Parse.{parse}

-- the encoding of a program that keeps the rules is read as that program
abbrev pub WrittenIsRead : Type 0
WrittenIsRead = (P : Program) → keeps P ≡ true → parse (encode P) ≡ Ok P

-- a file that is read as a program is the program's encoding, and the program keeps the rules
abbrev pub ReadWasWritten : Type 0
ReadWasWritten = (file : List ℕ) (P : Program) → AllBytes file → parse file ≡ Ok P → (file ≡ encode P) × (keeps P ≡ true)

-- the encoding of a program that keeps the rules is a file of bytes
abbrev pub WrittenInBytes : Type 0
WrittenInBytes = (P : Program) → keeps P ≡ true → AllBytes (encode P)

-- a file is read as a program exactly where it is the encoding of that program, which keeps the rules
pub record ReadExactly (file : List ℕ) (P : Program) : Type 0 where
  pub only : parse file ≡ Ok P → (file ≡ encode P) × (keeps P ≡ true)
  pub always : (file ≡ encode P) × (keeps P ≡ true) → parse file ≡ Ok P

abbrev pub FilesAreEncodings : Type 0
FilesAreEncodings = (file : List ℕ) (P : Program) → AllBytes file → ReadExactly file P

-- no two programs that keep the rules have one encoding
abbrev pub OneProgram : Type 0
OneProgram = (P Q : Program) → keeps P ≡ true → keeps Q ≡ true → encode P ≡ encode Q → P ≡ Q

-- a fault stands in the file or right behind it
abbrev pub PlacesWithin : Type 0
PlacesWithin = (file : List ℕ) (f : TableFault) → parse file ≡ Err f → table_fault_place f ≤ length file

-- faults come in file order: the bytes up to the number at its place settle a fault
abbrev pub FaultsAreFirst : Type 0
FaultsAreFirst = (file : List ℕ) (f : TableFault) → parse file ≡ Err f → parse (take (table_fault_place f + most_groups) file) ≡ Err f

-- and one that is no cut stays, whatever is added behind the file
abbrev pub FaultsStay : Type 0
FaultsStay = (file more : List ℕ) (f : TableFault) → parse file ≡ Err f → (table_fault_number f ≢ 1) → parse (file ++ more) ≡ Err f

-- an encoding that breaks off is cut
abbrev pub BeginningsAreCut : Type 0
BeginningsAreCut = (P : Program) (n : ℕ) → keeps P ≡ true → n < length (encode P) → (p : ℕ) × (parse (take n (encode P)) ≡ Err (Number (Cut p)))

-- a program that keeps the rules has what typing and the machine rest on
abbrev pub KeptIsWellFormed : Type 0
KeptIsWellFormed = (P : Program) → keeps P ≡ true → WellFormed P
