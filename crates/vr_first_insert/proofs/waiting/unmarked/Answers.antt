use Rattle.std.proofs.Common.{arith}
use Rattle.vr_first_insert.specs.Kept.{candidate_at, unread}
use Rattle.vr_first_insert.proofs.BestLemmas.{first-below}
use Rattle.vr_first_insert.proofs.WaitingLemmas.{begun-more}
use Rattle.vr_first_insert.proofs.waiting.unmarked.Goals as goal

pub have_wait-requires-clause-marks : goal.have_wait-requires-clause-marks
have_wait-requires-clause-marks c =
    let model = c.args.items.now.lookups.now.closed.model.now in
    let low = first-below model (candidate_at c.args.items.now.candidates.now c.loop-i.i).item
    (c.requires.items_are.each c.loop-i.i unread c.loop-i-test.true).item in
    let many = c.requires.marks in
    omega (arith, low, many)

pub loop-i-preserved : goal.loop-i-preserved
loop-i-preserved c = begun-more c.args.items.now.candidates.now c.args.marks.now c.loop-i.i c.loop-i-test.true
    c.loop-i.waiting.items c.loop-i.invariant c.have_wait.new.waiting.items c.in_ok-have_wait.ensures
