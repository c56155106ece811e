-- The frame that catches a thrown object. Assumes nothing.
use Rattle.std.proofs.Common.{◌≡◌, ℕ, ◌+◌, ◌<◌, List, ◌∷◌, length, get_or, set, Some, Option, sym, ap, ◌∙◌}
use Rattle.std.specs.Prelude.{⊤}
use Rattle.std.proofs.lemmas.List.{drop_more}
use Rattle.heap.specs.declared.value.Value.TheVariants as value
use Rattle.stack.specs.Stacked.{held}
use Rattle.jinja.specs.declared.program.Handler.{Handler}
use Rattle.jinja.specs.Options.{◌>>=◌}
use Rattle.jinja.specs.Program.{Program}
use Rattle.jinja.specs.Step.{goes, at_place}
use Rattle.engine.specs.declared.frame.Frame.{Frame}
use Rattle.engine.specs.Views.{frame_of, lowest_frames}
use Rattle.engine.specs.Catching.{catch_top, Lands, land, Landed, LandsAt}
use Rattle.engine.proofs.Tops.{lowest_set, lowest_top}

module _ (x : Handler) (fs : List Frame) (k : ℕ) (l : k < length fs) where
  pub landed_read : (a : ℕ) (d : Frame) → Landed x a fs k ≡ at_place (frame_of (get_or fs k d)) x.target (value.Addr a ∷ held (get_or fs k d).cells x.depth) ∷ lowest_frames fs k
  landed_read a d = ap (λ gs. land x a gs (lowest_frames fs k)) (drop_more fs k d l)

  pub landed_set : (a : ℕ) (d g : Frame) → frame_of g ≡ at_place (frame_of (get_or fs k d)) x.target (value.Addr a ∷ held (get_or fs k d).cells x.depth) → lowest_frames (set fs k g) (k + 1) ≡ Landed x a fs k
  landed_set a d g e = lowest_set fs k g l ∙ ap (λ f. f ∷ lowest_frames fs k) e ∙ sym (landed_read a d)

  pub lands_read : (P : Program) (f : Frame) (r : Option ⊤) → f ≡ get_or fs k f → Lands P x (frame_of f) (held f.cells x.depth) r → LandsAt P x fs k r
  lands_read P f r e s h a =
      let g = get_or fs k f in
      ap (catch_top P h a x) (lowest_top fs k f l ∙ ap (λ m. frame_of m ∷ lowest_frames fs k) (sym e)) ∙ s h a (lowest_frames fs k)
      ∙ ap (λ m. r >>= λ _. Some (goes h (at_place (frame_of m) x.target (value.Addr a ∷ held m.cells x.depth) ∷ lowest_frames fs k))) e
      ∙ ap (λ gs. r >>= λ _. Some (goes h gs)) (sym (landed_read a f))
