-- A count and then each item: what a pen did when the loop over them ends, and the bytes of what records stand for.
use Rattle.std.proofs.Common.{◌≡◌, ℕ, ◌≤◌, List, [], ◌∷◌, ◌++◌, map, length, take, sym, refl, ap, ◌∙◌, subst}
use Rattle.std.specs.List.{flat_map}
use Rattle.std.proofs.lemmas.List.{take_all, length-map, append-nil}
use Rattle.number.specs.Numbers.{bytes}
use Rattle.number.specs.Puts.{State, Put}
use Rattle.number.proofs.Putting.{put_more}
use Rattle.format.specs.Encode.{counted_bytes}
use Rattle.writer.specs.Numbers.{in_a_row}

pub counted_all : {X : Type 0} (f : X → List ℕ) (xs : List X) (i : ℕ) (s t u : State) → length xs ≤ i → Put s t (bytes (length xs)) → Put t u (flat_map f (take i xs)) → Put s u (counted_bytes f xs)
counted_all {X} f xs i s t u h a b = put_more s t u _ _ a (subst (λ (z : List X). Put t u (flat_map f z)) (take_all i xs h) b)

-- numbers one behind the other
pub row_is : (ns : List ℕ) → flat_map bytes ns ≡ in_a_row ns
row_is [] = refl
row_is (n ∷ []) = append-nil (bytes n)
row_is (n ∷ (m ∷ ns)) = ap (λ bs. bytes n ++ bs) (row_is (m ∷ ns))

pub counted_map : {X Y : Type 0} (f : Y → List ℕ) (g : X → Y) (xs : List X) → counted_bytes (λ x. f (g x)) xs ≡ counted_bytes f (map g xs)
counted_map f g xs = ap (λ n. bytes n ++ flat_map (λ x. f (g x)) xs) (sym (length-map xs g)) ∙ ap (λ bs. bytes (length (map g xs)) ++ bs) (joined_map f g xs)
  where
    joined_map : {X Y : Type 0} (f : Y → List ℕ) (g : X → Y) (xs : List X) → flat_map (λ x. f (g x)) xs ≡ flat_map f (map g xs)
    joined_map f g [] = refl
    joined_map f g (x ∷ xs) = ap (λ bs. f (g x) ++ bs) (joined_map f g xs)
