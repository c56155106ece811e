-- Where an instruction leads, and what each successor gets: they all get the same. Assumes nothing.
use Rattle.std.specs.Prelude.{ℕ, suc, List, [], ◌∷◌, Some, None, Option}
use Rattle.jinja.specs.declared.ty.Ty.{Ty}
use Rattle.jinja.specs.Rows.{Cell}
use Rattle.jinja.specs.Rule.{Edge, edge, next}
use Rattle.type_rows.specs.declared.leads.Leads.{Leads}
use Rattle.type_rows.specs.declared.leads.Leads.TheVariants.{Nowhere, Next, To, Either}

abbrev pub leads : Leads → ℕ → List Ty → List Cell → List Edge
leads Nowhere pc st lt = []
leads Next pc st lt = next pc st lt
leads (To q) pc st lt = edge q st lt ∷ []
leads (Either q) pc st lt = edge (suc pc) st lt ∷ edge q st lt ∷ []

-- nothing where a need fails
abbrev pub told : Option Leads → ℕ → List Ty → List Cell → Option (List Edge)
told None pc st lt = None
told (Some x) pc st lt = Some (leads x pc st lt)
