-- The number and the place of each fault of a number.
use Rattle.std.specs.Prelude.{ℕ}
use Rattle.number.specs.declared.fault.NumberFault.{NumberFault}
use Rattle.number.specs.declared.fault.NumberFault.TheVariants.{Cut, Padded, Oversize}

abbrev pub number_fault_number : NumberFault → ℕ
number_fault_number (Cut p) = 1
number_fault_number (Padded p) = 2
number_fault_number (Oversize p) = 3

-- where the number began
abbrev pub number_fault_place : NumberFault → ℕ
number_fault_place (Cut p) = p
number_fault_place (Padded p) = p
number_fault_place (Oversize p) = p
