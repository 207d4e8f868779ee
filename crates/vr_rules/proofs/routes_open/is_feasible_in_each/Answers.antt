use Rattle.std.proofs.Common.{arith}
use Rattle.vr_rules.proofs.OpenLemmas.{feasible_ends, feasible_stops}
use Rattle.vr_rules.proofs.routes_open.is_feasible_in_each.Goals as goal

pub returns-then-not-branch : goal.returns-then-not-branch
returns-then-not-branch c = feasible_stops c.args.lookups.now.closed.model.now c.args.v c.args.list.now
    c.loop-d.d c.in_ok-goes_through.field-0 (omega arith) c.in_ok-goes_through.ensures c.if-not-branch.true

pub returns : goal.returns
returns c = feasible_ends c.args.lookups.now.closed.model.now c.args.v c.args.list.now c.loop-d.d (omega arith) c.loop-d.invariant
