-- Items of a stack, counted from the bottom. Assumes nothing.
use Rattle.std.proofs.Common.{◌≡◌, ℕ, suc, ◌-◌, ◌<◌, ◌≤◌, List, map, length, get_or, Some, None, sym, ap, ◌∙◌, arith}
use Rattle.std.proofs.lemmas.List.{get_or_default, get_or-map, length-map}
use Rattle.std.proofs.lemmas.Bool.{lt-ltb, le-ltb}
use Rattle.stack.specs.Stacked.{held}
use Rattle.stack.proofs.Held.{held_below}
use Rattle.jinja.specs.Look.{from_bottom}
use Rattle.engine.specs.declared.frame.Frame.{Frame}
use Rattle.engine.specs.Views.{frame_of, lowest_frames}
use Rattle.engine.proofs.Reading.{held_length, seen_nth}

pub bottom_held : {X : Type 0} (xs : List X) (h i : ℕ) (d : X) → h ≤ length xs → i < h → from_bottom (held xs h) i ≡ Some (get_or xs i d)
bottom_held xs h i d l m =
    let x = get_or xs i d in
    let at : i ≡ h - 1 - (h - suc i) = omega arith in
    let read : x ≡ get_or xs (h - 1 - (h - suc i)) x = get_or_default xs i d x (omega arith) ∙ ap (λ k. get_or xs k x) at in
    rw (held_length xs h l, lt-ltb i h m) (sym (seen_nth xs h (h - suc i) (Some x) l (omega arith, held_below xs h (h - suc i) x (omega arith) l read)))

pub bottom_past : {X : Type 0} (xs : List X) (h i : ℕ) → h ≤ length xs → h ≤ i → from_bottom (held xs h) i ≡ None
bottom_past xs h i l m = rw (held_length xs h l, le-ltb i h m)

pub frame_found : (fs : List Frame) (n i : ℕ) (d : Frame) → n ≤ length fs → i < n → from_bottom (lowest_frames fs n) i ≡ Some (frame_of (get_or fs i d))
frame_found fs n i d l m =
    let e = length-map fs frame_of in
    bottom_held (map frame_of fs) n i (frame_of d) (omega (arith, e)) m ∙ ap Some (get_or-map frame_of fs i d (frame_of d) (omega arith))

pub frame_past : (fs : List Frame) (n i : ℕ) → n ≤ length fs → n ≤ i → from_bottom (lowest_frames fs n) i ≡ None
frame_past fs n i l m = let e = length-map fs frame_of in bottom_past (map frame_of fs) n i (omega (arith, e)) m
