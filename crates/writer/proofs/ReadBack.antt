-- A file that was written gives back the program that it was written of.
use Rattle.std.proofs.Common.{◌≡◌, ℕ, true, List, ◌++◌, length, take, Ok, sym, ap, ◌∙◌}
use Rattle.std.proofs.lemmas.List.{take_at}
use Rattle.jinja.specs.Program.{Program}
use Rattle.format.specs.Encode.{encode}
use Rattle.format.specs.Parse.{parse}
use Rattle.format.specs.Rules.{keeps}
use Rattle.format.proofs.RoundTrip.{written_is_read}

pub read_back : (P : Program) → keeps P ≡ true → (n : ℕ) (behind out : List ℕ) → n ≡ length (encode P) → out ≡ encode P ++ behind → parse (take n out) ≡ Ok P
read_back P k n behind out e h = ap parse (ap (take n) h ∙ take_at (encode P) behind n (sym e)) ∙ written_is_read P k
