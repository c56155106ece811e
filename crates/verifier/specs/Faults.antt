-- The number of each fault of verifying and of the least table, and the place of each fault of verifying.
use Rattle.std.specs.Prelude.{ℕ}
use Rattle.verifier.specs.declared.fault.VerifierFault.{VerifierFault}
use Rattle.verifier.specs.declared.fault.VerifierFault.TheVariants.{Short, Untypable}
use Rattle.verifier.specs.declared.fault.LeastTableFault.{LeastTableFault}
use Rattle.verifier.specs.declared.fault.LeastTableFault.TheVariants as least

abbrev pub verifier_fault_number : VerifierFault → ℕ
verifier_fault_number Short = 10
verifier_fault_number (Untypable k) = 11

abbrev pub verifier_fault_place : VerifierFault → ℕ
verifier_fault_place Short = 0
verifier_fault_place (Untypable k) = k

abbrev pub least_table_fault_number : LeastTableFault → ℕ
least_table_fault_number least.Short = 10
least_table_fault_number least.Unseen = 13
