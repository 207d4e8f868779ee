use Rattle.std.proofs.Common.{◌∙◌, Bool, ap, sym}
use Rattle.std.specs.Prelude.{is_some}
use Rattle.vr_model.specs.routes.Routes.{is_empty}
use Rattle.vr_model.specs.tables.Tables.{breaks_of, dimension_at}
use Rattle.vr_steps.specs.Stops.{allowed_by}
use Rattle.vr_steps.specs.declared.stops.StopName.TheVariants.{End, Start}
use Rattle.vr_steps.proofs.LawLemmas.{runs_are_counted}
use Rattle.vr_reach.specs.declared.stops.StopsFor.{StopsFor}
use Rattle.vr_reach.specs.VisitRuns.{have_visits_one_run, is_one_run}
use Rattle.vr_reach.proofs.RunLemmas.{all_four, first_fails, fourth_fails, none_of, one_counted, second_fails, third_fails}
use Rattle.vr_reach.proofs.Tables.{ends_for}
use Rattle.vr_reach.proofs.early.single_runs.Goals as goal

-- the four tests of the stops of a vehicle
abbrev no_breaks : StopsFor → Bool
no_breaks stops = is_empty (breaks_of (dimension_at stops.closed.model.now stops.d) stops.v)

abbrev one_at_start : StopsFor → Bool
one_at_start stops = is_one_run (allowed_by stops.closed.model.now stops.d stops.v Start)

abbrev one_at_end : StopsFor → Bool
one_at_end stops = is_one_run (allowed_by stops.closed.model.now stops.d stops.v End)

abbrev one_at_visits : StopsFor → Bool
one_at_visits stops = have_visits_one_run stops.closed.model.now stops.d stops.v

pub returns-clause-finish : goal.returns-clause-finish
returns-clause-finish c = c.in_ok-finish.ensures.finish c.args.stops.now.d (ends_for c.requires c.index-ends.ensures).sets

pub returns-clause-no_breaks : goal.returns-clause-no_breaks
returns-clause-no_breaks c =
    let ends = ends_for c.requires c.index-ends.ensures in
    sym ends.sets.breaks_are.same ∙ none_of c.index-ends.result.now.breaks (sym c.has_no_breaks.ensures ∙ c.if-not-has_no_breaks.false)

pub returns-clause-known : goal.returns-clause-known
returns-clause-known c =
    let s = c.args.stops.now in
    let ends = ends_for c.requires c.index-ends.ensures in
    all_four (no_breaks s) (one_at_start s) (one_at_end s) (one_at_visits s)
    (sym c.if-not-has_no_breaks.false ∙ c.has_no_breaks.ensures ∙ ap is_empty ends.sets.breaks_are.same)
    (c.in_ok-start.ensures.known
    ∙ one_counted runs_are_counted (allowed_by s.closed.model.now s.d s.v Start) c.index-ends.result.now.start_set ends.sets.start_set_is)
    (c.in_ok-finish.ensures.known s.d ends.sets) c.in_ok-visits.ensures.known

pub returns-then-not-has_no_breaks-clause-known : goal.returns-then-not-has_no_breaks-clause-known
returns-then-not-has_no_breaks-clause-known c =
    let s = c.args.stops.now in
    let ends = ends_for c.requires c.index-ends.ensures in
    first_fails (no_breaks s) (one_at_start s) (one_at_end s) (one_at_visits s)
    (sym c.if-not-has_no_breaks.true ∙ c.has_no_breaks.ensures ∙ ap is_empty ends.sets.breaks_are.same)

pub returns-in_err-start-clause-known : goal.returns-in_err-start-clause-known
returns-in_err-start-clause-known c =
    let s = c.args.stops.now in
    let ends = ends_for c.requires c.index-ends.ensures in
    ap is_some c.from_residual.ensures ∙ second_fails (no_breaks s) (one_at_start s) (one_at_end s) (one_at_visits s)
    (c.in_err-start.ensures.known
    ∙ one_counted runs_are_counted (allowed_by s.closed.model.now s.d s.v Start) c.index-ends.result.now.start_set ends.sets.start_set_is)

pub returns-in_err-finish-clause-known : goal.returns-in_err-finish-clause-known
returns-in_err-finish-clause-known c =
    let s = c.args.stops.now in
    let ends = ends_for c.requires c.index-ends.ensures in
    ap is_some c.from_residual-in_err-finish.ensures ∙ third_fails (no_breaks s) (one_at_start s) (one_at_end s) (one_at_visits s)
    (c.in_err-finish.ensures.known s.d ends.sets)

pub returns-in_err-visits-clause-known : goal.returns-in_err-visits-clause-known
returns-in_err-visits-clause-known c =
    let s = c.args.stops.now in
    ap is_some c.from_residual-in_err-visits.ensures ∙ fourth_fails (no_breaks s) (one_at_start s) (one_at_end s) (one_at_visits s)
    c.in_err-visits.ensures.known
