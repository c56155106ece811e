use Rattle.std.proofs.Common.{◌≡◌, ◌∷◌, ◌++◌, ◌+◌, ◌-◌, get_or, take, set, sym, ap, ◌∙◌, arith}
use Rattle.std.proofs.lemmas.List.{take_all, take-set, set-append_right}
use Rattle.engine.specs.Views.{lowest_frames}
use Rattle.engine.specs.Stepping.{top_stack}
use Rattle.engine.specs.Calling.{arguments, fresh}
use Rattle.engine.proofs.Reading.{held_length}
use Rattle.engine.proofs.Tops.{lowest_set, lowest_under}
use Rattle.engine.proofs.opening.open_at.Goals as goal

pub arguments-requires : goal.arguments-requires
arguments-requires c =
    let fs = c.args.frames.now in
    let s = c.split_at_mut-below in
    let at = c.args.at in
    let d = c.index-below-at.result in
    let f = get_or s.result.0.now (at - 1) d in
    let same = take_all at s.result.0.now (omega (arith, s.ensures.front_len)) ∙ s.ensures.front in
    let under = lowest_under fs s.result.0.now at d same c.requires.some (omega arith) in
    let n = held_length f.cells f.height (omega (arith, f.low, f.all_cells)) in
    rw n at (rw under at c.requires.high)

pub returns : goal.returns
returns c =
    let fs = c.args.frames.now in
    let s = c.split_at_mut-below in
    let below = s.result.0.now in
    let above = s.result.1.now in
    let at = c.args.at in
    let g = c.open.new.self in
    let same = take_all at below (omega (arith, s.ensures.front_len)) ∙ s.ensures.front in
    let under = lowest_under fs below at c.index-below-at.result same c.requires.some (omega arith) in
    let zero : at - at ≡ 0 = omega arith in
    let whole : below ++ set above 0 g ≡ set fs at g =
    ap (λ i. below ++ set above i g) (sym zero) ∙ sym (set-append_right below above at at g s.ensures.front_len (omega arith)) ∙ ap (λ xs. set xs at g) (sym s.ensures.value) in
    let args = c.arguments.ensures ∙ ap (λ gs. arguments c.args.n (top_stack gs)) (sym under) in
    record {
      after = ap (λ xs. lowest_frames xs (at + 1)) whole ∙ lowest_set fs at g c.requires.within
          ∙ ap (λ f. f ∷ lowest_frames fs at) (c.open.ensures ∙ ap (λ vs. fresh c.args.k c.args.this vs c.args.extras) args);
      below = ap (take at) whole ∙ take-set fs at g;
    }
