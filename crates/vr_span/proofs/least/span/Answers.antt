use Rattle.std.proofs.Common.{◌≡◌, ◌-ℤ◌, pos, to_z, of_z, w64, subst, rules, arith}
use Rattle.std.specs.Prelude.{IfSome}
use Rattle.std.proofs.lemmas.Int.{ints}
use Rattle.vr_model.specs.tables.Numbers.{horizon}
use Rattle.vr_model.specs.tables.WellFormed.{IsIn}
use Rattle.vr_model.proofs.schedules.ChoiceLaws.{chosen_is_least, chosen_where_feasible}
use Rattle.vr_steps.proofs.LawLemmas.{lines_stand_for_theirs}
use Rattle.vr_span.specs.Starts.{IsShortestWay}
use Rattle.vr_span.specs.Spans.{IsChosenBetween}
use Rattle.vr_span.proofs.SpanLemmas.{first_told, least_told, never_none, reached_told}
use Rattle.vr_span.proofs.least.span.Goals.{In_ok-plan}
use Rattle.vr_span.proofs.least.span.Goals as goal

-- the way that was found, and its two ends
way_is : (c : In_ok-plan) → IsShortestWay c.args.line.now c.in-Some.way
way_is c = subst (λ found. IfSome found (IsShortestWay c.args.line.now)) c.in-Some.is c.in_ok-way.ensures.some

cumul : (c : In_ok-plan) → IsIn (pos 0) horizon c.in-Some.way.lo
cumul c = subst (λ found. IfSome found (λ way. IsIn (pos 0) horizon way.lo)) c.in-Some.is c.in_ok-way.ensures.cumul

start : (c : In_ok-plan) → IsIn (pos 0) horizon c.in-Some.way.first
start c = subst (λ found. IfSome found (λ way. IsIn (pos 0) horizon way.first)) c.in-Some.is c.in_ok-way.ensures.start

-- what was chosen between them
between : (c : In_ok-plan) → IsChosenBetween c.args.line.now c.in-Some.way.first c.in-Some.way.lo c.in_ok-plan.field-0
between c =
    let line = c.args.line.now in
    let way = c.in-Some.way in
    let last = cumul c in
    let first = start c in
    let lo_same : to_z w64 (of_z w64 way.lo) ≡ way.lo = omega (arith, ints, last) in
    let first_same : to_z w64 (of_z w64 way.first) ≡ way.first = omega (arith, ints, first) in
    subst (λ e. IsChosenBetween line way.first e c.in_ok-plan.field-0) lo_same
    (subst (λ s. IsChosenBetween line s (to_z w64 (of_z w64 way.lo)) c.in_ok-plan.field-0) first_same c.in_ok-plan.ensures)

-- the span is read as it is
width : (c : In_ok-plan)
    → to_z w64 (of_z w64 (to_z w64 (of_z w64 c.in-Some.way.lo) -ℤ to_z w64 (of_z w64 c.in-Some.way.first))) ≡ c.in-Some.way.lo -ℤ c.in-Some.way.first
width c = let last = cumul c in let first = start c in omega (arith, ints, last, first)

pub returns-in_default-2-clause-none : goal.returns-in_default-2-clause-none
returns-in_default-2-clause-none c =
    let at = (goal.at.returns-in_default-2-clause-none c).In_ok-plan in
    λ nothing. never_none lines_stand_for_theirs chosen_is_least chosen_where_feasible c.args.line.now
    c.requires.sound c.requires.no_breaks c.in-Some.way (way_is at) c.in_ok-plan.field-0 (between at) (search rules)

pub returns-clause-reached : goal.returns-clause-reached
returns-clause-reached c =
    let at = (goal.at.returns-clause-reached c).In_ok-plan in
    let found = subst (IsChosenBetween c.args.line.now c.in-Some.way.first c.in-Some.way.lo) c.in-Some-2.is (between at) in
    reached_told lines_stand_for_theirs chosen_is_least chosen_where_feasible c.args.line.now
    c.requires.sound c.requires.no_breaks c.in-Some.way (way_is at) _ (width at) found

pub returns-clause-least : goal.returns-clause-least
returns-clause-least c =
    let at = (goal.at.returns-clause-least c).In_ok-plan in
    let found = subst (IsChosenBetween c.args.line.now c.in-Some.way.first c.in-Some.way.lo) c.in-Some-2.is (between at) in
    least_told lines_stand_for_theirs chosen_is_least chosen_where_feasible c.args.line.now
    c.requires.sound c.requires.no_breaks c.in-Some.way (way_is at) _ (width at) found

pub returns-clause-first : goal.returns-clause-first
returns-clause-first c =
    let at = (goal.at.returns-clause-first c).In_ok-plan in
    let found = subst (IsChosenBetween c.args.line.now c.in-Some.way.first c.in-Some.way.lo) c.in-Some-2.is (between at) in
    first_told lines_stand_for_theirs chosen_is_least chosen_where_feasible c.args.line.now
    c.requires.sound c.requires.no_breaks c.in-Some.way (way_is at) _ (width at) found
