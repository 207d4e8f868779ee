use Rattle.std.proofs.Common.{pos, arith}
use Rattle.std.proofs.lemmas.Result.{IfOk-weaker}
use Rattle.vr_model.specs.tables.Numbers.{horizon}
use Rattle.vr_model.specs.tables.WellFormed.{IsIn}
use Rattle.vr_reach.specs.Shared.{IsGreatestShared}
use Rattle.vr_reach.proofs.SweepLemmas.{begun}
use Rattle.vr_plan.specs.Ends.{IsLatestOf}
use Rattle.vr_plan.proofs.MeetLemmas.{latest_start_of, none_meets}
use Rattle.vr_plan.proofs.PinLemmas.{shared_range}
use Rattle.vr_plan.proofs.PlanLemmas.{some_weaker}
use Rattle.vr_steps.proofs.LawLemmas.{lines_stand_for_theirs, start_is_reached}
use Rattle.vr_plan.proofs.ends.latest_start.Goals as goal

pub returns-clause-some : goal.returns-clause-some
returns-clause-some c =
    let line = c.args.sound.line.now in
    let starts = c.in_ok-starts.starts in
    let ahead = begun lines_stand_for_theirs line c.args.sound.sound start_is_reached c.get-allowed.result.now
    starts c.get-allowed.ensures.value c.in_ok-starts.ensures.exact c.in_ok-starts.ensures.levels in
    IfOk-weaker _ _ _ (λ start. some_weaker start (IsGreatestShared starts c.args.behind.now) (IsLatestOf line)
    (latest_start_of line c.args.sound.sound starts c.args.behind.now ahead c.requires.behind)) c.greatest_shared.ensures.some

pub returns-clause-none : goal.returns-clause-none
returns-clause-none c =
    let line = c.args.sound.line.now in
    let starts = c.in_ok-starts.starts in
    let ahead = begun lines_stand_for_theirs line c.args.sound.sound start_is_reached c.get-allowed.result.now
    starts c.get-allowed.ensures.value c.in_ok-starts.ensures.exact c.in_ok-starts.ensures.levels in
    IfOk-weaker _ _ _ (none_meets line c.args.sound.sound 0 (omega arith) starts c.args.behind.now ahead c.requires.behind) c.greatest_shared.ensures.none

pub returns-clause-range : goal.returns-clause-range
returns-clause-range c =
    IfOk-weaker _ _ _ (λ start. some_weaker start (IsGreatestShared c.in_ok-starts.starts c.args.behind.now) (IsIn (pos 0) horizon)
    (λ x is. shared_range c.args.sound.line.now.breaks c.in_ok-starts.starts c.args.behind.now x c.in_ok-starts.ensures.levels is.shared))
    c.greatest_shared.ensures.some
