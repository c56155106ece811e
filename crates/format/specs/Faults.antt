-- The number and the place of each fault of a table.
use Rattle.std.specs.Prelude.{ℕ}
use Rattle.number.specs.Faults.{number_fault_number, number_fault_place}
use Rattle.format.specs.declared.fault.TableFault.{TableFault}
use Rattle.format.specs.declared.fault.TableFault.TheVariants.{Number, Outside, Unknown, Classless, Twice, Override, LeftOver}

abbrev pub table_fault_number : TableFault → ℕ
table_fault_number (Number e) = number_fault_number e
table_fault_number (Outside p) = 4
table_fault_number (Unknown p) = 5
table_fault_number (Classless p) = 6
table_fault_number (Twice p) = 7
table_fault_number (Override p) = 8
table_fault_number (LeftOver p) = 9

abbrev pub table_fault_place : TableFault → ℕ
table_fault_place (Number e) = number_fault_place e
table_fault_place (Outside p) = p
table_fault_place (Unknown p) = p
table_fault_place (Classless p) = p
table_fault_place (Twice p) = p
table_fault_place (Override p) = p
table_fault_place (LeftOver p) = p
