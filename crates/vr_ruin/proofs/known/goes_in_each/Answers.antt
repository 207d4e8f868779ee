use Rattle.std.proofs.Common.{arith}
use Rattle.vr_rules.proofs.OpenLemmas.{feasible_ends, feasible_goes_on, feasible_stops}
use Rattle.vr_ruin.proofs.known.goes_in_each.Goals as goal

pub returns-then-not-branch : goal.returns-then-not-branch
returns-then-not-branch c =
    feasible_stops c.args.changed.now.lookups.now.closed.model.now c.args.changed.now.vehicle c.args.changed.now.nodes.now
    c.loop-d.d c.in_ok-goes_unless.field-0 (omega (arith, c.requires.loads.many)) c.in_ok-goes_unless.ensures c.if-not-branch.true

pub loop-d-preserved : goal.loop-d-preserved
loop-d-preserved c = feasible_goes_on c.args.changed.now.lookups.now.closed.model.now c.args.changed.now.vehicle
    c.args.changed.now.nodes.now c.loop-d.d c.in_ok-goes_unless.field-0 c.loop-d.invariant c.in_ok-goes_unless.ensures c.if-not-branch.false

pub returns : goal.returns
returns c = feasible_ends c.args.changed.now.lookups.now.closed.model.now c.args.changed.now.vehicle
    c.args.changed.now.nodes.now c.loop-d.d (omega (arith, c.requires.loads.many)) c.loop-d.invariant
