-- The framework of a method of tables: its type rows. Assumes nothing.
use Rattle.std.specs.Prelude.{◌≡◌, Some, None, Option, refl}
use Rattle.std.proofs.Common.{◌∙◌, arith}
use Rattle.format.proofs.WellFormed.{kept_is_well_formed}
use Rattle.jinja.specs.Program.{MethodDecl}
use Rattle.jinja.specs.Classes.{maybe}
use Rattle.jinja.specs.Lookups.{Owned, method_at}
use Rattle.jinja.proofs.Options.{nth_inside, conflict}
use Rattle.tables.specs.Views.{method_views}
use Rattle.tables.specs.Methods.{unowned}
use Rattle.tables.proofs.Numbering.{length_views}
use Rattle.tables.proofs.Owners.{methods_numbered}
use Rattle.walk.specs.Framework.{Framework}
use Rattle.type_rows.specs.declared.method.Method.{Method}
use Rattle.type_rows.specs.Methods.{no_method}
use Rattle.type_rows.specs.Stepping.{program, owned}
use Rattle.type_rows.specs.TypeRows.{type_rows}

owner_found : (o : Option Owned) {d : MethodDecl} → unowned o ≡ Some d → o ≡ Some (maybe o no_method (λ m. m))
owner_found None e = absurd (conflict e)
owner_found (Some M) e = refl

pub method_stands : (m : Method) → method_at (program m) m.number ≡ Some (owned m)
method_stands m =
    let t = m.tables.now in
    owner_found (method_at (program m) m.number) (methods_numbered t m.number m.whole ∙ (nth_inside (method_views t) m.number (omega (arith, length_views t, m.there))).1)

abbrev pub method_framework : Method → Framework
method_framework m = type_rows (program m) (owned m) m.number (kept_is_well_formed (program m) m.kept) (method_stands m) m.short
