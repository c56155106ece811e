-- What a pen did, put together: one call after another, a loop over a list, a dry run and then the other.
use Rattle.std.proofs.Common.{◌≡◌, ℕ, suc, ◌+◌, ◌-◌, ◌<◌, ◌≤◌, Bool, true, false, cond, List, [], ◌∷◌, ◌++◌, length, get_or, take, drop, set, Ok, Err, Result, sym, refl, ap, ◌∙◌, subst, arith}
use Rattle.std.proofs.Math.Seq.{sets, length-sets, sets-eq, take-append-add}
use Rattle.std.proofs.lemmas.Grind.{flat_map-append}
use Rattle.std.specs.List.{flat_map}
use Rattle.std.proofs.lemmas.List.{length-append, flat_map_more, take_more, take-append-drop, take-append-le, take_all}
use Rattle.number.specs.Puts.{State, Put, Full, Puts, Ran, Written}

sets_append : (bs cs l : List ℕ) (i : ℕ) → sets (sets l i bs) (i + length bs) cs ≡ sets l i (bs ++ cs)
sets_append [] cs l i = let e : i + 0 ≡ i = omega arith in rw e refl
sets_append (b ∷ bs) cs l i = let e : i + suc (length bs) ≡ suc i + length bs = omega arith in rw e (sets_append bs cs (set l i b) (suc i))

out_more : (dry : Bool) (s t u bs cs : List ℕ) (p : ℕ) → t ≡ cond dry s (sets s p bs) → u ≡ cond dry t (sets t (p + length bs) cs) → u ≡ cond dry s (sets s p (bs ++ cs))
out_more true s t u bs cs p a b = b ∙ a
out_more false s t u bs cs p a b = b ∙ (rw a (sets_append bs cs s p))

out_length : (dry : Bool) (s t bs : List ℕ) (p : ℕ) → t ≡ cond dry s (sets s p bs) → length t ≡ length s
out_length true s t bs p a = ap length a
out_length false s t bs p a = ap length a ∙ length-sets s p bs

-- a pen leaves the length of its slice
put_length : (s t : State) (bs : List ℕ) → Put s t bs → length t.out ≡ length s.out
put_length s t bs a = out_length s.dry s.out t.out bs s.place a.out

-- a dry pen leaves its slice
dry_same : (s t : State) (bs : List ℕ) → Put s t bs → s.dry ≡ true → t.out ≡ s.out
dry_same s t bs a d = a.out ∙ ap (λ x. cond x s.out (sets s.out s.place bs)) d

-- what has room for bs and then for a part of cs
room_more : (s t : State) (bs cs : List ℕ) → Put s t bs → bs ++ take (length t.out - t.place) cs ≡ take (length s.out - s.place) (bs ++ cs)
room_more s t bs cs a =
    let e : length s.out - s.place ≡ length bs + (length t.out - t.place) = omega (arith, put_length s t bs a, a.place, a.within) in
    sym (take-append-add bs cs (length t.out - t.place)) ∙ ap (λ k. take k (bs ++ cs)) (sym e)

pub put_none : (s : State) → Put s s []
put_none s = record { place = omega arith; within = omega arith; out = none s.dry s.out; dry = refl; slice = refl }
  where
    none : (dry : Bool) (l : List ℕ) → l ≡ cond dry l l
    none true l = refl
    none false l = refl

pub put_more : (s t u : State) (bs cs : List ℕ) → Put s t bs → Put t u cs → Put s u (bs ++ cs)
put_more s t u bs cs a b =
    let l = put_length s t bs a in
    let n = length-append bs cs in
    let o : u.out ≡ cond s.dry t.out (sets t.out (s.place + length bs) cs) = (rw (a.place, a.dry) at b.out) in
    record {
      place = omega (arith, a.place, b.place);
      within = omega (arith, a.within, b.within);
      out = out_more s.dry s.out t.out u.out bs cs s.place a.out o;
      dry = b.dry ∙ a.dry;
      slice = b.slice ∙ a.slice;
    }

pub put_full : (s t u : State) (bs cs : List ℕ) → Put s t bs → Full t u cs → Full s u (bs ++ cs)
put_full s t u bs cs a b =
    let l = put_length s t bs a in
    let n = length-append bs cs in
    record {
      short = omega (arith, a.place, b.short);
      front = subst (Put s u) (room_more s t bs cs a) (put_more s t u bs _ a b.front);
    }

pub full_front : (s t : State) (bs cs : List ℕ) → Full s t bs → Full s t (bs ++ cs)
full_front s t bs cs a =
    let n = length-append bs cs in
    record {
      short = omega (arith, a.short);
      front = subst (Put s t) (sym (take-append-le _ bs cs (omega (arith, a.short)))) a.front;
    }

-- one call after another
pub puts_more : {T E : Type 0} (r : Result T E) (s t u : State) (bs cs : List ℕ) → Put s t bs → Puts r t u cs → Puts r s u (bs ++ cs)
puts_more (Ok x) s t u bs cs a b = put_more s t u bs cs a b
puts_more (Err e) s t u bs cs a b = put_full s t u bs cs a b

-- the bytes of the elements of a list, one behind the other
pub joined_step : {X : Type 0} (f : X → List ℕ) (xs : List X) (i : ℕ) (d : X) → i < length xs → flat_map f (take i xs) ++ f (get_or xs i d) ≡ flat_map f (take (i + 1) xs)
joined_step f xs i d h = flat_map_more f [] (take i xs) (get_or xs i d) ∙ ap (flat_map f) (sym (take_more xs i d h))

pub joined_split : {X : Type 0} (f : X → List ℕ) (xs : List X) (i : ℕ) → flat_map f (take i xs) ++ flat_map f (drop i xs) ≡ flat_map f xs
joined_split f xs i = sym (flat_map-append f (take i xs) (drop i xs)) ∙ ap (flat_map f) (take-append-drop i xs)

-- the turns of a loop that puts f x of each x of xs
module _ {X : Type 0} (f : X → List ℕ) (xs : List X) (i : ℕ) (d : X) where
  pub loop_more : (s t u : State) → i < length xs → Put s t (flat_map f (take i xs)) → Put t u (f (get_or xs i d)) → Put s u (flat_map f (take (i + 1) xs))
  loop_more s t u h a b = subst (Put s u) (joined_step f xs i d h) (put_more s t u _ _ a b)

  pub loop_full : (s t u : State) → i < length xs → Put s t (flat_map f (take i xs)) → Full t u (f (get_or xs i d)) → Full s u (flat_map f xs)
  loop_full s t u h a b =
      let w = subst (Full s u) (joined_step f xs i d h) (put_full s t u _ _ a b) in
      subst (Full s u) (joined_split f xs (i + 1)) (full_front s u _ (flat_map f (drop (i + 1) xs)) w)

  pub loop_all : (s t : State) → length xs ≤ i → Put s t (flat_map f (take i xs)) → Put s t (flat_map f xs)
  loop_all s t h a = subst (λ (z : List X). Put s t (flat_map f z)) (take_all i xs h) a

  -- the same, at an element that is known by another name
  module _ (x : X) (e : get_or xs i d ≡ x) where
    pub loop_more_at : (s t u : State) → i < length xs → Put s t (flat_map f (take i xs)) → Put t u (f x) → Put s u (flat_map f (take (i + 1) xs))
    loop_more_at s t u h a b = loop_more s t u h a (subst (λ (z : X). Put t u (f z)) (sym e) b)

    pub loop_full_at : (s t u : State) → i < length xs → Put s t (flat_map f (take i xs)) → Full t u (f x) → Full s u (flat_map f xs)
    loop_full_at s t u h a b = loop_full s t u h a (subst (λ (z : X). Full t u (f z)) (sym e) b)

-- a pen that began at the first byte: what it put, or that the slice is too short
pub ran_all : (s t : State) (bs : List ℕ) → s.place ≡ 0 → Put s t bs → (t.place ≡ length bs) × (t.place ≤ length s.out) × (t.out ≡ cond s.dry s.out (sets s.out 0 bs))
ran_all s t bs z a =
    (omega (arith, a.place), omega (arith, a.within), a.out ∙ ap (λ p. cond s.dry s.out (sets s.out p bs)) z)

pub ran_full : (s t : State) (bs : List ℕ) → s.place ≡ 0 → Full s t bs → (length s.out < length bs) × (s.dry ≡ true → t.out ≡ s.out)
ran_full s t bs z a = (omega (arith, a.short), dry_same s t _ a.front)

-- a dry run that fitted, and then the other
pub run_both : {E : Type 0} (r : Result ℕ E) (n : ℕ) (bs before mid after : List ℕ) → (n ≡ length bs) × (n ≤ length before) × (mid ≡ before) → Ran r false bs mid after → Written r bs before after
run_both (Ok m) n bs before mid after a b =
    let s = sets-eq bs before 0 (omega (arith, a.0, a.1)) in
    let z : 0 + length bs ≡ length bs = omega arith in
    (b.0, b.2 ∙ (ap (λ x. sets x 0 bs) a.2 ∙ (s ∙ ap (λ k. bs ++ drop k before) z)))
run_both (Err e) n bs before mid after a b = absurd (omega (arith, a.0, a.1, ap length a.2, b.0))
