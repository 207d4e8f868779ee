use Rattle.std.proofs.Common.{◌∙◌, ◌+◌, ◌<ℤ◌, ℕ, ℤ, List, pos, length, suc, ap, sym, subst, arith}
use Rattle.std.specs.Prelude.{is_some, IsTrue}
use Rattle.std.proofs.lemmas.Bool.{false≢true}
use Rattle.std.proofs.lemmas.Int.{ints}
use Rattle.vr_model.proofs.schedules.ChoiceLaws.{chosen_is_least}
use Rattle.vr_model.specs.tables.Numbers.{horizon}
use Rattle.vr_model.specs.tables.Tables.{evaluator_of, no_dimension}
use Rattle.vr_model.specs.tables.WellFormed.{IsIn}
use Rattle.vr_reach.specs.Early.{AreEarly, AreFoundInTurn}
use Rattle.vr_reach.specs.Lists.{IsUsed}
use Rattle.vr_reach.specs.VehicleStops.{line_for}
use Rattle.vr_reach.proofs.EarlyLemmas.{as_many_stops, chosen_list, in_range}
use Rattle.vr_reach.proofs.FoundLemmas.{none_begun_list}
use Rattle.vr_reach.proofs.SingleLemmas.{cumul_read}
use Rattle.vr_reach.proofs.early.write_earliest.Goals as goal

pub invariant_of-of : goal.invariant_of-of
invariant_of-of c = record {
  dimension = c.requires.stops.dimension;
  vehicle = c.requires.stops.vehicle;
  used = subst (IsUsed c.args.stops.now.closed.model.now) (sym c.whole-whole.ensures) c.requires.used;
}

pub invariant_of-line : goal.invariant_of-line
invariant_of-line c =
    let same = cumul_read c.slack_of.result c.slack_of.ensures.range in
    record {
      evaluator_is = c.evaluator_of.ensures ∙ ap (λ dimension. evaluator_of dimension c.args.stops.now.v) (sym (c.get.ensures.value no_dimension));
      slack_is = same ∙ c.slack_of.ensures.value;
      slack_range = subst (IsIn (pos 0) horizon) (sym same) c.slack_of.ensures.range;
      runs_are = c.in-Some.ensures.visits;
      finish_is = c.in-Some.ensures.finish;
    }

-- the cumuls are those of the list
early : (c : goal.After-drive) → IsTrue c.drive.result
    → AreEarly (line_for c.args.stops.now c.args.list.now) (length c.args.list.now + 1) c.drive.new.cumuls.items
early c found = subst (λ l. AreEarly (line_for c.args.stops.now l) (length l + 1) c.drive.new.cumuls.items) c.whole-whole.ensures (c.drive.ensures.early found)

pub drive-requires-clause-few : goal.drive-requires-clause-few
drive-requires-clause-few c = let same = ap length c.whole-whole.ensures in omega (arith, c.requires.few, same)

pub returns-else-runs-clause-chosen : goal.returns-else-runs-clause-chosen
returns-else-runs-clause-chosen c found = chosen_list c.args.stops.now.closed.model.now c.args.stops.now.d
    c.args.stops.now.v c.args.list.now c.drive.new.cumuls.items (early c found) chosen_is_least c.in-Some.ensures.no_breaks

pub returns-else-runs-clause-stops : goal.returns-else-runs-clause-stops
returns-else-runs-clause-stops c found =
    as_many_stops c.args.stops.now.closed.model.now c.args.stops.now.d c.args.stops.now.v c.args.list.now c.drive.new.cumuls.items (early c found)

pub returns-else-runs-clause-range : goal.returns-else-runs-clause-range
returns-else-runs-clause-range c found =
    in_range c.args.stops.now.closed.model.now c.args.stops.now.d c.args.stops.now.v c.args.list.now c.drive.new.cumuls.items (early c found)

pub returns-then-runs-clause-found : goal.returns-then-runs-clause-found
returns-then-runs-clause-found c =
    let runs = c.in-Some.runs in
    let start = c.in-Some.ensures.start in
    let lo = start.ends.lo in
    let hi = start.ends.hi in
    let empty : runs.start.hi <ℤ runs.start.lo = omega (arith, ints, c.if-runs.true, lo.at_least, lo.at_most, hi.at_least, hi.at_most) in (
      λ t. absurd (false≢true t),
      λ m.
          absurd (none_begun_list c.args.stops.now.closed.model.now c.args.stops.now.d c.args.stops.now.v
          c.args.list.now runs.start start empty (suc (length c.args.list.now)) m.cumuls m.found),
    )

pub returns-else-runs-clause-found : goal.returns-else-runs-clause-found
returns-else-runs-clause-found c =
    let same = c.whole-whole.ensures in
    let by : List ℕ → List ℤ → Type 0 = λ l. AreFoundInTurn (line_for c.args.stops.now l) (suc (length l)) in (
      λ t. let found = c.drive.ensures.found.0 t in
          record { runs = sym c.in-Some.ensures.known; cumuls = found.0; found = subst (λ l. by l found.0) same found.1 },
      λ m. c.drive.ensures.found.1 (m.cumuls, subst (λ l. by l m.cumuls) (sym same) m.found),
    )

pub returns-in-None-clause-found : goal.returns-in-None-clause-found
returns-in-None-clause-found c = (λ t. absurd (false≢true t), λ m. absurd (false≢true (sym (ap is_some c.in-None.is) ∙ c.single_runs.ensures.known ∙ m.runs)))
