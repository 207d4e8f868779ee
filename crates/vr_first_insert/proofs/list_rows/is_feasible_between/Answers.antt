use Rattle.std.proofs.Common.{arith}
use Rattle.vr_rules.proofs.OpenLemmas.{feasible_ends, feasible_goes_on, feasible_stops}
use Rattle.vr_first_insert.proofs.list_rows.is_feasible_between.Goals as goal

pub returns-then-not-branch : goal.returns-then-not-branch
returns-then-not-branch c =
    feasible_stops c.args.old.now.lookups.now.closed.model.now c.args.old.now.vehicle c.args.new.now c.loop-d.d
    c.in_ok-goes_between.field-0 (omega (arith, c.requires.kept.one_of_each)) c.in_ok-goes_between.ensures c.if-not-branch.true

pub loop-d-preserved : goal.loop-d-preserved
loop-d-preserved c = feasible_goes_on c.args.old.now.lookups.now.closed.model.now c.args.old.now.vehicle c.args.new.now
    c.loop-d.d c.in_ok-goes_between.field-0 c.loop-d.invariant c.in_ok-goes_between.ensures c.if-not-branch.false

pub returns : goal.returns
returns c = feasible_ends c.args.old.now.lookups.now.closed.model.now c.args.old.now.vehicle
    c.args.new.now c.loop-d.d (omega (arith, c.requires.kept.one_of_each)) c.loop-d.invariant
