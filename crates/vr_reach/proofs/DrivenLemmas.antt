-- What is known of a list that a vehicle drives, of a leg of it, and of a walk of one run along one.
use Rattle.std.proofs.Common.{◌≡◌, ℕ, suc, ◌+◌, ◌≤◌, List, length, sym, ◌∙◌, arith}
use Rattle.vr_spans.specs.declared.runs.Run.{Run}
use Rattle.vr_spans.specs.Runs.{has}
use Rattle.vr_model.specs.schedules.Lines.{Line, line}
use Rattle.vr_model.specs.schedules.Choices.{is_reached, reaches_end}
use Rattle.vr_model.specs.schedules.SoundLines.{IsSound}
use Rattle.vr_model.specs.tables.Tables.{breaks_of, dimension_at}
use Rattle.vr_model.specs.declared.records.BreakRow.{BreakRow}
use Rattle.vr_model.specs.declared.records.Model.{Model}
use Rattle.vr_model.proofs.schedules.ChoiceLaws.{end_reached_as_tested, reached_as_tested}
use Rattle.vr_model.proofs.schedules.LineArcs.{arcs_of_line}
use Rattle.vr_model.proofs.schedules.LinesSound.{lines_are_sound}
use Rattle.vr_steps.specs.declared.hops.Hop.{Hop}
use Rattle.vr_steps.specs.Levels.{AreCrossed, AreLevels, level_at}
use Rattle.vr_steps.specs.Reached.{AreReached, AreReachingEnd, IsAllowedSet, hop_at}
use Rattle.vr_steps.proofs.LawLemmas.{reached_behind_arc}
use Rattle.vr_reach.specs.declared.driven.Driven.{Driven}
use Rattle.vr_reach.specs.declared.legs.Leg.{Leg}
use Rattle.vr_reach.specs.declared.run_walks.RunWalk.{RunWalk}
use Rattle.vr_reach.specs.KnownRows.{IsReachingFrom}
use Rattle.vr_reach.specs.Legs.{line_of_leg}
use Rattle.vr_reach.specs.RunWalks.{line_along}
use Rattle.vr_reach.specs.Standing.{IsReachedAt}
use Rattle.vr_reach.specs.Tested.{IsReachedBy, IsReachingBy}
use Rattle.vr_reach.specs.VehicleStops.{line_of}
use Rattle.vr_reach.specs.Walks.{Meets}
use Rattle.vr_reach.proofs.LineParts.{meets, reached_next, same_tests, sound_line}

-- its line is sound
pub sound_of : (of : Driven) → IsSound (line_of of)
sound_of of = sound_line lines_are_sound of.closed.model.now of.closed.well_formed of.d of.v of.dimension of.vehicle of.list.now of.used

-- what is reached behind the arc from stop k
pub next_on : (of : Driven) (breaks : List BreakRow) → breaks ≡ breaks_of (dimension_at of.closed.model.now of.d) of.v → (k : ℕ)
    → k ≤ length of.list.now → (hop : Hop) → hop ≡ hop_at (line_of of) k → (set : List Run) → IsAllowedSet (line_of of) (k + 1) set
    → (from new : List (List Run)) → AreReached (line_of of) k from → AreCrossed from hop set breaks new → AreReached (line_of of) (k + 1) new
next_on of = reached_next lines_are_sound of.closed.model.now of.closed.well_formed of.d of.v of.dimension of.vehicle of.list.now of.used reached_behind_arc

-- where a walk meets what the end is reached from
pub meets_on : (of : Driven) (breaks : List BreakRow) → breaks ≡ breaks_of (dimension_at of.closed.model.now of.d) of.v → (k last : ℕ)
    → last ≤ suc (length of.list.now) → k ≡ last → (ahead behind : List (List Run)) → AreLevels breaks ahead → AreLevels breaks behind
    → AreReached (line_of of) k ahead → AreReachingEnd (line_of of) last behind → Meets (line_of of) last ahead behind
meets_on of = meets lines_are_sound of.closed.model.now of.closed.well_formed of.d of.v of.dimension of.vehicle of.list.now of.used

-- ---- levels, by the tests and by the definitions

pub reached_by : (model : Model) (d v : ℕ) (list : List ℕ) (k : ℕ) (levels : List (List Run))
    → IsReachedAt model d v list k levels → IsReachedBy (line model d v list) k levels
reached_by model d v list k levels is =
    let L : Line = line model d v list in record {
      form = is.form;
      exact = λ b few x. same_tests (has (level_at levels b) x) (is_reached L k b x)
          (λ t. (reached_as_tested L k b x).1 ((is.reached b few x).0 t)) (λ t. (is.reached b few x).1 ((reached_as_tested L k b x).0 t));
    }

pub reaching_by : (model : Model) (d v : ℕ) (list : List ℕ) (k : ℕ) (levels : List (List Run))
    → IsReachingFrom model d v list k levels → IsReachingBy (line model d v list) k levels
reaching_by model d v list k levels is =
    let L : Line = line model d v list in record {
      form = is.form;
      exact = λ b few x. same_tests (has (level_at levels b) x) (reaches_end L k b x)
          (λ t. (end_reached_as_tested L k b x).1 ((is.reaching b few x).0 t)) (λ t. (is.reaching b few x).1 ((end_reached_as_tested L k b x).0 t));
    }

as_reached : (L : Line) (k : ℕ) (levels : List (List Run)) → IsReachedBy L k levels → AreReached L k levels
as_reached L k levels is b few x =
    (λ t. (reached_as_tested L k b x).0 (sym (is.exact b few x) ∙ t), λ reached. is.exact b few x ∙ (reached_as_tested L k b x).1 reached)

as_reaching : (L : Line) (k : ℕ) (levels : List (List Run)) → IsReachingBy L k levels → AreReachingEnd L k levels
as_reaching L k levels is b few x =
    (λ t. (end_reached_as_tested L k b x).0 (sym (is.exact b few x) ∙ t), λ reaches. is.exact b few x ∙ (end_reached_as_tested L k b x).1 reaches)

-- what a leg begins with, and what it meets
pub leg_from : (leg : Leg) → AreReached (line_of_leg leg) leg.begin leg.from.now
leg_from leg = as_reached (line_of_leg leg) leg.begin leg.from.now leg.begun

pub leg_to : (leg : Leg) → AreReachingEnd (line_of_leg leg) leg.last leg.to.now
leg_to leg = as_reaching (line_of_leg leg) leg.last leg.to.now leg.met

-- the same, of a walk of one run
pub walk_from : (walk : RunWalk) → AreReached (line_along walk) walk.begin walk.from.now
walk_from walk = as_reached (line_along walk) walk.begin walk.from.now walk.begun

pub walk_to : (walk : RunWalk) → AreReachingEnd (line_along walk) walk.last walk.to.now
walk_to walk = as_reaching (line_along walk) walk.last walk.to.now walk.met

pub walk_within : (walk : RunWalk) → walk.last ≤ length (line_along walk).arcs
walk_within walk = let of = walk.line.of in let n = arcs_of_line of.closed.model.now of.d of.v of.list.now in let le = walk.within in omega (arith, n, le)
