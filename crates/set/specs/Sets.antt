-- The program that a set holds.
use Rattle.jinja.specs.Program.{Program}
use Rattle.set.specs.declared.set.Set.{Set}
use Rattle.tables.specs.declared.tables.Tables.{Tables}
use Rattle.tables.specs.Views.{program_of}

abbrev pub tables_of : Set → Tables
tables_of s = s.tables

abbrev pub set_program : Set → Program
set_program s = program_of s.tables
