-- What a file that is read is, and what is left of it in a set.
use Rattle.std.proofs.Common.{◌≡◌, ℕ, ◌<◌, true, List, get_or, is_ok, IfOk, Ok, Err, Result, sym, refl, ap, ◌∙◌, arith, w8, Fits}
use Rattle.std.proofs.ByRecursion.{All-from_get_or}
use Rattle.number.specs.Laws.{AllBytes}
use Rattle.jinja.specs.Program.{Program}
use Rattle.format.specs.Encode.{encode}
use Rattle.format.specs.Rules.{keeps}
use Rattle.format.specs.Reading.{Left}
use Rattle.format.specs.Parse.{parse, filled}
use Rattle.format.specs.declared.fault.TableFault.{TableFault}
use Rattle.format.proofs.Counting.{ok_same}
use Rattle.format.proofs.RoundTrip.{written_is_read, read_was_written}

pub all_bytes : (file : List ℕ) → ((i : ℕ) → Fits w8 (get_or file i 0)) → AllBytes file
all_bytes file h = All-from_get_or (λ b. b < 256) file 0 (λ i _. (h i).fits)

module _ (file : List ℕ) (bytes : AllBytes file) where
  -- what is left in the set keeps the rules, whatever the file
  pub filled_keeps : (P : Program) → P ≡ filled (parse file) → keeps P ≡ true
  unfolding keeps
  filled_keeps P e =
      let go : (X : Result Program TableFault) → parse file ≡ X → keeps (filled X) ≡ true =
      λ X. elim X as (λ X. parse file ≡ X → keeps (filled X) ≡ true) [ Ok Q ↦ (λ h. (read_was_written file Q bytes h).1) | Err f ↦ (λ h. refl) ] in
      ap keeps e ∙ go (parse file) refl

  pub read_encoding : {T : Type 0} (r : Result T TableFault) (P : Program) → Left r P (parse file) → IfOk r (λ _. file ≡ encode P)
  read_encoding (Ok x) P h = (read_was_written file P bytes h).0
  read_encoding (Err f) P h = tt

pub encoding_read : {T : Type 0} (file : List ℕ) (r : Result T TableFault) (P Q : Program) → Left r P (parse file) → keeps Q ≡ true → file ≡ encode Q → (is_ok r ≡ true) × (P ≡ Q)
encoding_read file (Ok x) P Q h k e = (refl, ok_same P Q (sym h ∙ (ap parse e ∙ written_is_read Q k)))
encoding_read file (Err f) P Q h k e = absurd (let w = written_is_read Q k in let a = ap parse e in let z : ◌≡◌ {A = ℕ} 0 1 = cc in omega arith)
