-- What is written gives the program back.
use Rattle.std.specs.Prelude.{◌≡◌, ℕ, List, take, IfOk, Ok, Result}
use Rattle.jinja.specs.Program.{Program}
use Rattle.format.specs.Parse.{parse}

-- where the answer is a length, so many bytes of the output are read as the program P
abbrev pub ReadsAs : {E : Type 0} → Result ℕ E → Program → List ℕ → Type 0
ReadsAs r P out = IfOk r (λ n. parse (take n out) ≡ Ok P)
