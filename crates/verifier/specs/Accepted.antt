-- The set and the program that were accepted.
use Rattle.jinja.specs.Program.{Program}
use Rattle.set.specs.declared.set.Set.{Set}
use Rattle.set.specs.Sets.{set_program}
use Rattle.verifier.specs.declared.accepted.Accepted.{Accepted}

abbrev pub accepted_set : Accepted → Set
accepted_set a = a.set

abbrev pub accepted_program : Accepted → Program
accepted_program a = set_program a.set
