-- The method of a number, which there is wherever the number is below the count. Assumes nothing.
use Rattle.std.specs.Prelude.{ℕ, []}
use Rattle.jinja.specs.declared.ty.Ty.TheVariants.{Void}
use Rattle.jinja.specs.Program.{Program}
use Rattle.jinja.specs.Classes.{maybe}
use Rattle.jinja.specs.Lookups.{Owned, method_at}

abbrev pub no_method : Owned
no_method = record { owner = 0; method = record { name = 0; params = []; result = Void; height = 0; extras = 0; code = []; handlers = [] } }

abbrev pub the_method : Program → ℕ → Owned
the_method P k = maybe (method_at P k) no_method (λ m. m)
