use Rattle.std.proofs.Common.{◌≡◌, ◌<◌, [], length, get_or, take, refl, ◌∙◌, subst, arith, take_all, drop-set-lt, rules}
use Rattle.jinja.specs.Program.{Program}
use Rattle.jinja.specs.Calls.{perform}
use Rattle.machine.specs.States.{program, state}
use Rattle.machine.specs.declared.call.Call.{Call}
use Rattle.machine.specs.declared.call.Call.TheVariants.{Begin}
use Rattle.machine.specs.Asked.{asked}
use Rattle.machine.proofs.Plays.{play_more}
use Rattle.machine.proofs.Tells.{told}
use Rattle.machine.proofs.history.history.Goals as goal

-- what is read where no call stands
abbrev unasked : Call
unasked = Begin 0 0 (record { ref_ptr = (0, 0); now = [] })

pub loop-i-init : goal.loop-i-init
loop-i-init g c = (refl, refl, refl, refl)

pub loop-i-preserved : goal.loop-i-preserved
loop-i-preserved g c =
    let cs = c.args.calls.now in
    let i = c.loop-i.i in
    let w = c.loop-i.replies in
    let inv = c.loop-i.invariant in
    let within : i < length w = search rules in
    let P = program c.make-machine.result in
    let m = state g.H.Heap.meaning c.loop-i.machine in
    let t = state g.H.Heap.meaning c.perform.new.self in
    let e = subst (λ (Q : Program). (c.perform.result, t) ≡ perform Q (asked (get_or cs i unasked)) m) inv.3 c.perform.ensures.state in
    let p = play_more P cs _ i _ _ _ w c.perform.result c.loop-i-test.true within inv.0 inv.1 e in
    (p.0, p.1, drop-set-lt (length cs) w i _ c.loop-i-test.true ∙ inv.2, c.perform.ensures.program ∙ inv.3)

pub returns : goal.returns
returns g c =
    let cs = c.args.calls.now in
    let inv = c.loop-i.invariant in
    let all : take c.loop-i.i cs ≡ cs = take_all c.loop-i.i cs c.loop-i-test.false in
    let is : c.loop-i.i ≡ length cs = omega (arith, c.loop-i.auto.i-end) in (
      c.if-replies-calls.false,
      inv.3 ∙ c.make-machine.ensures.program,
      told c.args.accepted _ c.args.number cs c.args.replies.now c.loop-i.replies _ _ _ c.make-machine.ensures.program c.make-machine.ensures.state
          (rw all at inv.0) (rw (all, is) at inv.1) inv.2,
    )
