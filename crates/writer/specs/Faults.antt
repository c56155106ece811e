-- The number and the place of each refusal to write.
use Rattle.std.specs.Prelude.{ℕ}
use Rattle.writer.specs.declared.fault.WriteFault.{WriteFault}
use Rattle.writer.specs.declared.fault.WriteFault.TheVariants.{Short}

abbrev pub write_fault_number : WriteFault → ℕ
write_fault_number Short = 10

-- where the output begins
abbrev pub write_fault_place : WriteFault → ℕ
write_fault_place Short = 0
