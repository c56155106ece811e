-- The number that users know each refusal by.
use Rattle.std.specs.Prelude.{ℕ}
use Rattle.heap.specs.declared.fault.HeapFault.{HeapFault}
use Rattle.heap.specs.declared.fault.HeapFault.TheVariants.{Full, NoObject}

abbrev pub heap_fault_number : HeapFault → ℕ
heap_fault_number Full = 18
heap_fault_number NoObject = 19
