-- The search through the classes for the one that declares a method.
use Rattle.std.proofs.Common.{◌≡◌, ◌-◌, sym, ap, ◌∙◌, arith}
use Rattle.std.specs.List.{slice_get}
use Rattle.jinja.specs.Lookups.{methods_from, method_at}
use Rattle.tables.specs.Views.{program_of}
use Rattle.tables.specs.Methods.{owner_of}
use Rattle.tables.proofs.Owners.{no_owner, none_before, owner_here, owner_later}
use Rattle.tables.proofs.tables.Tables.owning_record.Goals as goal

pub loop-i-init : goal.loop-i-init
unfolding method_at
loop-i-init c = let e : c.args.k - 0 ≡ c.args.k = omega arith in (omega arith, ap (slice_get (methods_from 4 (program_of c.args.self.now))) e)

pub returns-then-k-class-clause-owner : goal.returns-then-k-class-clause-owner
returns-then-k-class-clause-owner c =
    let classes = c.as_slice-class-items.ensures.items in
    ap owner_of (sym c.loop-i.invariant.1)
    ∙ owner_here c.args.self.now c.loop-i.i c.args.k _ (rw classes at c.loop-i-test.true) c.loop-i.invariant.0 (rw classes at c.if-k-class.true)

pub loop-i-preserved : goal.loop-i-preserved
loop-i-preserved c =
    let classes = c.as_slice-class-items.ensures.items in
    let there = rw classes at c.loop-i-test.true in
    let later = rw classes at c.if-k-class.false in (
      none_before c.args.self.now c.loop-i.i c.args.k _ there later,
      sym (owner_later c.args.self.now c.loop-i.i c.args.k _ there later) ∙ c.loop-i.invariant.1,
    )

pub returns-clause-owner : goal.returns-clause-owner
returns-clause-owner c =
    ap owner_of (sym c.loop-i.invariant.1 ∙ no_owner c.args.self.now c.loop-i.i c.args.k (rw c.as_slice-class-items.ensures.items at c.loop-i-test.false))
