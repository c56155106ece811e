-- Where no method of the class has been read, the counted ones are all of it.
use Rattle.std.proofs.Common.{◌≡◌, [], sym, ap, ◌∙◌, arith}
use Rattle.std.proofs.lemmas.List.{drop_all}
use Rattle.std.proofs.lemmas.Result.{err_from_is_err_and}
use Rattle.number.specs.Places.{file_of, place_of}
use Rattle.format.specs.Reading.{then, counted}
use Rattle.format.specs.Parse.{method_at}
use Rattle.tables.specs.Views.{method_views, program_of}
use Rattle.tables.proofs.Numbering.{length_views}
use Rattle.set.specs.Progress.{mine}
use Rattle.set.proofs.Checked.{methods_counted}
use Rattle.set.proofs.Ways.{moved}
use Rattle.set.proofs.methods.read_methods.Goals as goal

pub returns-in_err-add_methods : goal.returns-in_err-add_methods
returns-in_err-add_methods c =
    let p = err_from_is_err_and c.from_residual-in_err-add_methods.result c.from_residual-in_err-add_methods.ensures.1 in
    let t = c.args.t.now in
    let file = file_of c.args.c.now in
    let f = c.in_ok-count.ensures.took.file in
    let none : mine c.len-first.result t ≡ [] = drop_all c.len-first.result (method_views t) (omega (arith, length_views t, c.len-first.ensures.count)) in
    let a = methods_counted file c.args.n (program_of t) c.args.s (place_of c.args.c.now) c.len-first.result (c.requires.whole ∙ sym c.len-first.ensures.count) in
    let b = moved (λ x. counted (method_at x c.args.n (program_of t) c.args.s) c.in_ok-count.count [] (place_of c.read_more.new.c)) f
    (sym (ap (λ ms. counted (method_at (file_of c.read_more.new.c) c.args.n (program_of t) c.args.s) c.in_ok-count.count ms (place_of c.read_more.new.c)) none) ∙ c.in_err-add_methods.ensures.went.gave) in
    rw (p.1, p.2) (record {
      first = tt;
      tallied = tt;
      more = tt;
      went = record {
        file = c.in_err-add_methods.ensures.went.file ∙ f;
        gave = a ∙ (ap (λ x. then x (λ k q. counted (method_at file c.args.n (program_of t) c.args.s) k [] q)) c.in_ok-count.ensures.took.gave ∙ b);
      };
    })

pub returns : goal.returns
returns c =
    let t = c.args.t.now in
    let file = file_of c.args.c.now in
    let f = c.in_ok-count.ensures.took.file in
    let none : mine c.len-first.result t ≡ [] = drop_all c.len-first.result (method_views t) (omega (arith, length_views t, c.len-first.ensures.count)) in
    let a = methods_counted file c.args.n (program_of t) c.args.s (place_of c.args.c.now) c.len-first.result (c.requires.whole ∙ sym c.len-first.ensures.count) in
    let b = moved (λ x. counted (method_at x c.args.n (program_of t) c.args.s) c.in_ok-count.count [] (place_of c.read_more.new.c)) f
    (sym (ap (λ ms. counted (method_at (file_of c.read_more.new.c) c.args.n (program_of t) c.args.s) c.in_ok-count.count ms (place_of c.read_more.new.c)) none) ∙ c.in_ok-add_methods.ensures.went.gave) in
    record {
      first = c.len-first.ensures.count;
      tallied = c.in_ok-add_methods.ensures.tallied;
      more = c.in_ok-add_methods.ensures.more;
      went = record {
        file = c.in_ok-add_methods.ensures.went.file ∙ f;
        gave = a ∙ (ap (λ x. then x (λ k q. counted (method_at file c.args.n (program_of t) c.args.s) k [] q)) c.in_ok-count.ensures.took.gave ∙ b);
      };
    }
