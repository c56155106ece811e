-- Each turn puts the item that it read behind those before it.
use Rattle.std.proofs.Common.{◌≡◌, ◌-◌, ◌<◌, ◌∷◌, [], length, drop, sym, refl, ap, ◌∙◌, arith}
use Rattle.std.proofs.lemmas.List.{length_push, drop_all, drop-append-le, take-append-le, take_all}
use Rattle.std.proofs.lemmas.Result.{err_from_is_err_and}
use Rattle.number.specs.Places.{file_of, place_of}
use Rattle.filled.specs.Items.{items_of}
use Rattle.format.proofs.Counting.{counted_ok, counted_err}
use Rattle.set.proofs.Cut.{cut_all}
use Rattle.set.proofs.Ways.{moved}
use Rattle.set.proofs.table.grow.Goals as goal

pub loop-init : goal.loop-init
loop-init g c =
    let count = c.len-first.ensures.count in
    let all : c.args.count - 0 ≡ c.args.count = omega arith in
    record {
      left = rw (all, drop_all c.len-first.result (items_of c.args.table.now) (omega arith)) refl;
      file = refl;
      front = take_all c.len-first.result (items_of c.args.table.now) (omega arith);
      all = omega arith;
    }

pub returns-in_err-item-clause-went : goal.returns-in_err-item-clause-went
returns-in_err-item-clause-went g c =
    let i = c.loop.invariant in
    let p = err_from_is_err_and c.from_residual.result c.from_residual.ensures.1 in
    let mine = drop c.len-first.result (items_of c.loop.table) in
    let read = moved (λ f. g.T.Item.at f c.args.n mine (place_of c.loop.c)) i.file
    (rw (cut_all c.len-first.result c.as_slice.result.now (items_of c.loop.table) c.as_slice.ensures.items) at c.in_err-item.ensures.gave) in
    rw (p.1, p.2) (record {
      file = c.in_err-item.ensures.file ∙ i.file;
      gave = sym i.left ∙ counted_err (g.T.Item.at (file_of c.args.c.now) c.args.n) c.args.count c.loop.counter mine (place_of c.loop.c) c.in_err-item.field-0.0 (omega arith) read;
    })

pub loop-preserved : goal.loop-preserved
loop-preserved g c =
    let i = c.loop.invariant in
    let xs = items_of c.loop.table in
    let mine = drop c.len-first.result xs in
    let room : length xs < g.row.N = omega (arith, c.requires.room, c.len-first.ensures.count, i.all) in
    let e = c.push.ensures.fits room in
    let read = moved (λ f. g.T.Item.at f c.args.n mine (place_of c.loop.c)) i.file
    (rw (cut_all c.len-first.result c.as_slice.result.now (items_of c.loop.table) c.as_slice.ensures.items) at c.in_ok-item.ensures.gave) in
    record {
      left = rw (e, drop-append-le c.len-first.result xs (c.in_ok-item.item ∷ []) (omega (arith, i.all))) (sym (counted_ok (g.T.Item.at (file_of c.args.c.now) c.args.n) c.args.count c.loop.counter mine (place_of c.loop.c) (place_of c.read.new.c) c.in_ok-item.item (omega arith) read) ∙ i.left);
      file = c.in_ok-item.ensures.file ∙ i.file;
      front = rw (e, take-append-le c.len-first.result xs (c.in_ok-item.item ∷ []) (omega (arith, i.all))) i.front;
      all = omega (arith, ap length e, length_push xs c.in_ok-item.item, i.all);
    }
