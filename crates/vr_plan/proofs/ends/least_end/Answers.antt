use Rattle.std.proofs.Common.{pos, subst, arith}
use Rattle.vr_model.specs.tables.Numbers.{horizon}
use Rattle.vr_model.specs.tables.WellFormed.{IsIn}
use Rattle.vr_reach.specs.Rows.{IsBackwardRow}
use Rattle.vr_reach.specs.Shared.{IsLeastSharedCumul}
use Rattle.vr_reach.proofs.SweepLemmas.{ended}
use Rattle.vr_plan.specs.Ends.{IsLeastEndOf}
use Rattle.vr_plan.proofs.MeetLemmas.{least_end_of, none_meets}
use Rattle.vr_plan.proofs.PinLemmas.{shared_range}
use Rattle.vr_plan.proofs.PlanLemmas.{some_weaker}
use Rattle.vr_steps.proofs.LawLemmas.{end_is_reached, lines_stand_for_theirs}
use Rattle.vr_plan.proofs.ends.least_end.Goals as goal

pub returns-clause-some : goal.returns-clause-some
returns-clause-some c =
    let line = c.args.sound.line.now in
    let ends = c.in_ok-ends.ends in
    let behind = ended lines_stand_for_theirs line c.args.sound.sound end_is_reached c.len.result c.get-allowed.result.now
    ends c.len.ensures c.get-allowed.ensures.value c.in_ok-ends.ensures.exact c.in_ok-ends.ensures.levels in
    some_weaker c.least_shared.result (IsLeastSharedCumul c.args.ahead.now ends) (IsLeastEndOf line)
    (least_end_of line c.args.sound.sound c.args.ahead.now ends c.requires.ahead (subst (λ k. IsBackwardRow line k ends) c.len.ensures behind))
    c.least_shared.ensures.some

pub returns-clause-none : goal.returns-clause-none
returns-clause-none c =
    let line = c.args.sound.line.now in
    let ends = c.in_ok-ends.ends in
    let behind = ended lines_stand_for_theirs line c.args.sound.sound end_is_reached c.len.result c.get-allowed.result.now
    ends c.len.ensures c.get-allowed.ensures.value c.in_ok-ends.ensures.exact c.in_ok-ends.ensures.levels in
    none_meets line c.args.sound.sound _ (omega arith) c.args.ahead.now ends c.requires.ahead
    (subst (λ k. IsBackwardRow line k ends) c.len.ensures behind) c.least_shared.result c.least_shared.ensures.none

pub returns-clause-range : goal.returns-clause-range
returns-clause-range c =
    some_weaker c.least_shared.result (IsLeastSharedCumul c.args.ahead.now c.in_ok-ends.ends) (IsIn (pos 0) horizon)
    (λ x is. shared_range c.args.sound.line.now.breaks c.args.ahead.now c.in_ok-ends.ends x c.requires.ahead.form is.shared) c.least_shared.ensures.some
