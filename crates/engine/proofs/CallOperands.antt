-- What Invoke takes off a stack. Assumes nothing.
use Rattle.std.proofs.Common.{◌≡◌, ℕ, zero, suc, ◌≤◌, List, [], ◌∷◌, ◌++◌, reverse, length, take, drop, Some, None, sym, refl, ap, ◌∙◌, arith}
use Rattle.std.specs.List.{slice_get}
use Rattle.std.proofs.lemmas.List.{append-nil, append_assoc, reverse-append}
use Rattle.jinja.specs.Rule.{operands, taken, operands_of}
use Rattle.jinja.proofs.Options.{conflict, some_inj}

taken_are : {A : Type 0} (n : ℕ) (st acc : List A) {r : A} → slice_get st n ≡ Some r → taken n st acc ≡ Some (operands (reverse (take n st) ++ acc) r (drop (suc n) st))
taken_are n [] acc e = absurd (conflict e)
taken_are zero (a ∷ st) acc e = ap (λ r. Some (operands acc r st)) (some_inj e)
taken_are (suc n) (a ∷ st) acc {r} e =
    taken_are n st (a ∷ acc) e
    ∙ ap (λ l. Some (operands l r (drop (suc n) st))) (sym (append_assoc (reverse (take n st)) (a ∷ []) acc) ∙ ap (λ l. l ++ acc) (sym (reverse-append (a ∷ []) (take n st))))

-- the receiver is the operand with n above it
pub operands_are : {A : Type 0} (n : ℕ) (st : List A) {r : A} → slice_get st n ≡ Some r → operands_of n st ≡ Some (operands (reverse (take n st)) r (drop (suc n) st))
operands_are n st {r} e = taken_are n st [] e ∙ ap (λ l. Some (operands l r (drop (suc n) st))) (append-nil (reverse (take n st)))

taken_none : {A : Type 0} (n : ℕ) (st acc : List A) → length st ≤ n → taken n st acc ≡ None
taken_none zero [] acc l = refl
taken_none zero (a ∷ st) acc l = absurd (omega arith)
taken_none (suc n) [] acc l = refl
taken_none (suc n) (a ∷ st) acc l = taken_none n st (a ∷ acc) (omega arith)

pub operands_none : {A : Type 0} (n : ℕ) (st : List A) → length st ≤ n → operands_of n st ≡ None
operands_none n st l = taken_none n st [] l
