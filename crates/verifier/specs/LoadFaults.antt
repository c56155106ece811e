-- The layer, the number and the place of each loading fault: those of the lower layer's fault.
use Rattle.std.specs.Prelude.{ℕ}
use Rattle.format.specs.declared.fault.TableFault.{TableFault}
use Rattle.format.specs.declared.fault.TableFault.TheVariants.{Number, Outside, Unknown, Classless, Twice, Override, LeftOver}
use Rattle.format.specs.Faults.{table_fault_number, table_fault_place}
use Rattle.verifier.specs.declared.load_fault.LoadFault.{LoadFault}
use Rattle.verifier.specs.declared.load_fault.LoadFault.TheVariants.{Table, Verifier}
use Rattle.verifier.specs.declared.load_fault.Layer.{Layer}
use Rattle.verifier.specs.declared.load_fault.Layer.TheVariants as layer
use Rattle.verifier.specs.Faults.{verifier_fault_number, verifier_fault_place}

abbrev pub table_layer : TableFault → Layer
table_layer (Number e) = layer.Numbers
table_layer (Outside p) = layer.Table
table_layer (Unknown p) = layer.Table
table_layer (Classless p) = layer.Table
table_layer (Twice p) = layer.Table
table_layer (Override p) = layer.Table
table_layer (LeftOver p) = layer.Table

abbrev pub fault_layer : LoadFault → Layer
fault_layer (Table e) = table_layer e
fault_layer (Verifier e) = layer.Verifier

abbrev pub load_fault_number : LoadFault → ℕ
load_fault_number (Table e) = table_fault_number e
load_fault_number (Verifier e) = verifier_fault_number e

abbrev pub load_fault_place : LoadFault → ℕ
load_fault_place (Table e) = table_fault_place e
load_fault_place (Verifier e) = verifier_fault_place e
