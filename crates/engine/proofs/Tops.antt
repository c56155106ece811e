-- The top one of the frames that stand. Assumes nothing.
use Rattle.std.proofs.Common.{◌≡◌, ℕ, ◌+◌, ◌-◌, ◌<◌, ◌≤◌, List, [], ◌∷◌, map, reverse, length, get_or, take, set, sym, ap, ◌∙◌, arith}
use Rattle.std.proofs.lemmas.List.{take_more, take-map, get_or-map, get_or-take, length-map, map-set, reverse-append}
use Rattle.stack.specs.Stacked.{held}
use Rattle.stack.proofs.Held.{held_push}
use Rattle.jinja.specs.Step.{Frame as Activation}
use Rattle.engine.specs.declared.frame.Frame.{Frame}
use Rattle.engine.specs.Views.{frame_of, lowest_frames}
use Rattle.engine.specs.Calling.{below}
use Rattle.engine.proofs.Reading.{held_length}

pub lowest_length : (fs : List Frame) (n : ℕ) → n ≤ length fs → length (lowest_frames fs n) ≡ n
lowest_length fs n l = let m = length-map fs frame_of in held_length (map frame_of fs) n (omega (arith, m))

-- a frame in the place of the top one
pub lowest_set : (fs : List Frame) (k : ℕ) (f : Frame) → k < length fs → lowest_frames (set fs k f) (k + 1) ≡ frame_of f ∷ lowest_frames fs k
lowest_set fs k f l =
    let m = length-map fs frame_of in
    ap (λ xs. held xs (k + 1)) (map-set frame_of fs k f) ∙ held_push (map frame_of fs) k (frame_of f) (omega (arith, m))

pub lowest_top : (fs : List Frame) (k : ℕ) (d : Frame) → k < length fs → lowest_frames fs (k + 1) ≡ frame_of (get_or fs k d) ∷ lowest_frames fs k
lowest_top fs k d l =
    let m = length-map fs frame_of in
    let e = get_or-map frame_of fs k d (frame_of d) l in
    ap reverse (take_more (map frame_of fs) k (frame_of d) (omega (arith, m)))
    ∙ reverse-append (take k (map frame_of fs)) (get_or (map frame_of fs) k (frame_of d) ∷ [])
    ∙ ap (λ f. f ∷ lowest_frames fs k) e

-- what was read is the top frame
pub lowest_is : (fs : List Frame) (k : ℕ) (f : Frame) → k < length fs → f ≡ get_or fs k f → lowest_frames fs (k + 1) ≡ frame_of f ∷ lowest_frames fs k
lowest_is fs k f l r = lowest_top fs k f l ∙ ap (λ g. frame_of g ∷ lowest_frames fs k) (sym r)

-- the topmost of the k lowest, that was read
pub lowest_read : (fs : List Frame) (k : ℕ) (f : Frame) → 0 < k → k ≤ length fs → f ≡ get_or fs (k - 1) f → lowest_frames fs k ≡ frame_of f ∷ lowest_frames fs (k - 1)
lowest_read fs k f p l r =
    let e : k ≡ k - 1 + 1 = omega arith in
    ap (lowest_frames fs) e ∙ lowest_is fs (k - 1) f (omega arith) r

-- the top one, whichever it is
lowest_some : (fs : List Frame) (k : ℕ) → k < length fs → (f : Activation) × (lowest_frames fs (k + 1) ≡ f ∷ lowest_frames fs k)
lowest_some [] k l = absurd (omega arith)
lowest_some (f ∷ fs) k l = (frame_of (get_or (f ∷ fs) k f), lowest_top (f ∷ fs) k f l)

-- the others
pub lowest_below : (fs : List Frame) (n : ℕ) → 0 < n → n ≤ length fs → below (lowest_frames fs n) ≡ lowest_frames fs (n - 1)
lowest_below fs n p l =
    let one : n ≡ n - 1 + 1 = omega arith in
    ap below (ap (lowest_frames fs) one ∙ (lowest_some fs (n - 1) (omega arith)).1)

-- frames that are the same in memory
pub lowest_same : (xs ys : List Frame) (n : ℕ) → take n ys ≡ take n xs → lowest_frames ys n ≡ lowest_frames xs n
lowest_same xs ys n e = ap reverse (take-map frame_of n ys ∙ ap (map frame_of) e ∙ sym (take-map frame_of n xs))

pub get_or_same : (xs ys : List Frame) (n k : ℕ) (d : Frame) → take n ys ≡ take n xs → k < n → get_or ys k d ≡ get_or xs k d
get_or_same xs ys n k d e l = sym (get_or-take n ys k d l) ∙ ap (λ (fs : List Frame). get_or fs k d) e ∙ get_or-take n xs k d l

-- the topmost of the k lowest, where it was read from frames that are the same
pub lowest_under : (xs ys : List Frame) (k : ℕ) (d : Frame) → take k ys ≡ take k xs → 0 < k → k ≤ length xs → lowest_frames xs k ≡ frame_of (get_or ys (k - 1) d) ∷ lowest_frames xs (k - 1)
lowest_under xs ys k d e p l =
    let one : k ≡ k - 1 + 1 = omega arith in
    ap (lowest_frames xs) one ∙ lowest_top xs (k - 1) d (omega arith) ∙ ap (λ g. frame_of g ∷ lowest_frames xs (k - 1)) (sym (get_or_same xs ys k (k - 1) d e (omega arith)))

-- the topmost of the n lowest
pub lowest_old : (fs : List Frame) (n : ℕ) (d : Frame) → 0 < n → n ≤ length fs → lowest_frames fs n ≡ frame_of (get_or fs (n - 1) d) ∷ lowest_frames fs (n - 1)
lowest_old fs n d p l =
    let one : n ≡ n - 1 + 1 = omega arith in
    ap (lowest_frames fs) one ∙ lowest_top fs (n - 1) d (omega arith)
