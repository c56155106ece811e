use Rattle.std.proofs.Common.{◌∷◌, sym, refl, ap, ◌∙◌, add-one, arith}
use Rattle.std.proofs.lemmas.Bool.{lt-ltb, le-ltb, false≢true}
use Rattle.stack.specs.Stacked.{held}
use Rattle.jinja.specs.Step.{at_place}
use Rattle.engine.specs.Views.{frame_of}
use Rattle.engine.proofs.Reading.{held_length}
use Rattle.engine.proofs.frame.Frame.onward.Goals as goal

pub returns-then-keep-bounds : goal.returns-then-keep-bounds
returns-then-keep-bounds c =
    let l = held_length c.args.self.now.cells c.args.keep (omega arith) in
    record { told = sym (le-ltb _ _ (omega (arith, l))); moved = λ e. absurd (false≢true e); kept = λ _. refl }

pub returns : goal.returns
returns c =
    let f = c.args.self.now in
    let l = held_length f.cells c.args.keep (omega arith) in
    record {
      told = sym (lt-ltb _ _ (omega (arith, l)));
      moved = λ _. c.go_with.ensures ∙ ap (λ p. at_place (frame_of f) p (c.args.value ∷ held f.cells c.args.keep)) (add-one f.pc);
      kept = λ e. cc;
    }
