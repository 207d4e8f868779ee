use Rattle.std.proofs.Common.{length, sym, ◌∙◌, arith}
use Rattle.vr_check.specs.Findings.{spot}
use Rattle.vr_check.proofs.Firsts.{finds, goes_on, not_right, right}
use Rattle.vr_given.specs.ListFaults.{schedule_broken_at}
use Rattle.vr_given.proofs.faults.late_in.Goals as goal

pub loop-d-preserved : goal.loop-d-preserved
loop-d-preserved c =
    let model = c.args.lookups.now.closed.model.now in
    goes_on (schedule_broken_at model c.args.v c.args.list.now) (length model.dimensions)
    c.loop-d.d c.loop-d.invariant (omega (arith, c.loop-d-test.true, c.len-d-end.ensures))
    (right (spot c.args.v c.loop-d.d) (sym c.in_ok-fits.ensures ∙ c.if-not-branch.false))

pub returns-then-not-branch : goal.returns-then-not-branch
returns-then-not-branch c =
    let model = c.args.lookups.now.closed.model.now in
    finds (schedule_broken_at model c.args.v c.args.list.now) (length model.dimensions)
    c.loop-d.d c.loop-d.invariant (omega (arith, c.loop-d-test.true, c.len-d-end.ensures))
    (not_right (sym c.in_ok-fits.ensures ∙ c.if-not-branch.true) c.at.ensures)
