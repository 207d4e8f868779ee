use Rattle.std.proofs.Common.{◌≡◌, ◌∙◌, ℕ, ◌+◌, ◌<◌, ◌≤◌, List, length, refl, ap, ap₂, sym, subst, arith}
use Rattle.std.proofs.lemmas.Result.{IfOk-weaker}
use Rattle.std.specs.Prelude.{IsTrue}
use Rattle.vr_model.specs.routes.Routes.{route}
use Rattle.vr_model.specs.schedules.Weights.{list_weight}
use Rattle.vr_model.specs.declared.records.Model.{Model}
use Rattle.vr_reach.specs.Lists.{IsTour, is_feasible_list}
use Rattle.vr_reach.specs.KnownRows.{AreRowsIfUsed}
use Rattle.vr_reach.specs.Spliced.{AreSeams, spliced}
use Rattle.vr_reach.specs.Tries.{list_tries}
use Rattle.vr_routes.specs.Pieces.{ListAfter, joined}
use Rattle.vr_pathfilters.specs.Parts.{IsPartBetween}
use Rattle.vr_pathfilters.proofs.PartEnds.{part_seen}
use Rattle.vr_pathfilters.proofs.PartTours.{tour_of, rule_at}
use Rattle.vr_pathfilters.proofs.dimensions.part_passes.Goals as goal

-- what is counted of the list of a vehicle and of the one that it becomes is what is told of the part
counted : (told : ℕ → List ℕ → List ℕ → ℕ) (start : ℕ) {model : Model} {lists : List (List ℕ)}
    {part : ListAfter} {v front behind new : ℕ} {list between seen : List ℕ}
    → IsPartBetween model lists part v front behind between → list ≡ route lists v → seen ≡ between → new ≤ start + told v list (spliced list front behind seen)
    → new ≤ start + told part.vehicle (route lists part.vehicle) (joined lists part.pieces)
counted told start {model} {lists} {part} {v} {front} {behind} {new} {list} {between} {seen} is old same =
    subst (λ n. new ≤ start + n)
    (ap₂ (λ l s. told v l (spliced l front behind s)) old same
    ∙ (ap (told v (route lists v)) is.whole ∙ ap (λ w. told w (route lists w) (joined lists part.pieces)) is.same))

pub write_between-ends-requires-clause-tours : goal.write_between-ends-requires-clause-tours
write_between-ends-requires-clause-tours g c = let closed = c.args.at.now.closed in (closed.model.now, closed.well_formed, c.requires.stands.tours_are)

pub passes_along-requires-clause-known : goal.passes_along-requires-clause-known
passes_along-requires-clause-known g c =
    let m = c.args.at.now.closed.model.now in
    let v = c.write_between-ends.result.vehicle in
    let known : v < length c.args.known.now = omega (
      arith,
      (c.write_between-ends.ensures c.args.at.now.closed.model.now c.args.at.now.closed.well_formed c.requires.stands.tours_are).vehicle,
      c.requires.stands.tours_are.list_of_each,
      (c.requires.stands.rows_are refl).known_of_each,
    ) in
    let here = (c.requires.stands.rows_are refl).known_are v c.index-known-v.result known in
    subst (λ l. AreRowsIfUsed m c.args.at.now.d v l c.index-known-v.result) (sym c.list.ensures.value)
    (subst (AreRowsIfUsed m c.args.at.now.d v (route c.args.at.now.routes.now.lists v)) (sym c.index-known-v.is) here)

pub passes_along-requires-clause-passed : goal.passes_along-requires-clause-passed
passes_along-requires-clause-passed g c =
    let feasible = is_feasible_list c.args.at.now.closed.model.now c.args.at.now.d in
    let v = c.write_between-ends.result.vehicle in
    subst (λ l. IsTrue (feasible v l)) (sym c.list.ensures.value)
    (rule_at feasible c.args.at.now.routes.now.lists c.requires.stands.rule v
    (c.write_between-ends.ensures c.args.at.now.closed.model.now c.args.at.now.closed.well_formed c.requires.stands.tours_are).vehicle)

pub passes_along-requires-clause-old_tour : goal.passes_along-requires-clause-old_tour
passes_along-requires-clause-old_tour g c =
    let m = c.args.at.now.closed.model.now in
    subst (IsTour m) (sym c.list.ensures.value)
    (tour_of m c.args.at.now.routes.now c.requires.stands.tours_are c.write_between-ends.result.vehicle
    (c.write_between-ends.ensures c.args.at.now.closed.model.now c.args.at.now.closed.well_formed c.requires.stands.tours_are).vehicle)

pub passes_along-requires-clause-seams : goal.passes_along-requires-clause-seams
passes_along-requires-clause-seams g c =
    let ends = c.write_between-ends in
    subst (λ l. AreSeams (length l) ends.result.front ends.result.behind) (sym c.list.ensures.value)
    (ends.ensures c.args.at.now.closed.model.now c.args.at.now.closed.well_formed c.requires.stands.tours_are).seams

pub passes_along-requires-clause-tour : goal.passes_along-requires-clause-tour
passes_along-requires-clause-tour g c =
    let ends = c.write_between-ends in
    subst (λ l. IsTour c.args.at.now.closed.model.now (spliced l ends.result.front ends.result.behind c.as_slice.result.now)) (sym c.list.ensures.value)
    (part_seen (ends.ensures c.args.at.now.closed.model.now c.args.at.now.closed.well_formed c.requires.stands.tours_are) c.as_slice.ensures.value).tour

pub returns-clause-answer : goal.returns-clause-answer
returns-clause-answer g c =
    let feasible = is_feasible_list c.args.at.now.closed.model.now c.args.at.now.d in
    let ends = c.write_between-ends in
    let part = ends.ensures c.args.at.now.closed.model.now c.args.at.now.closed.well_formed c.requires.stands.tours_are in
    IfOk-weaker c.passes_along.result _ _ (λ passed is. is
    ∙ (ap₂ (λ l s. feasible ends.result.vehicle (spliced l ends.result.front ends.result.behind s)) c.list.ensures.value c.as_slice.ensures.value
    ∙ ap₂ feasible part.same part.whole)) c.passes_along.ensures.exact

pub returns-clause-count : goal.returns-clause-count
returns-clause-count g c = counted (list_weight c.args.at.now.closed.model.now c.args.at.now.d) c.args.steps.now
    (c.write_between-ends.ensures c.args.at.now.closed.model.now c.args.at.now.closed.well_formed c.requires.stands.tours_are)
    c.list.ensures.value c.as_slice.ensures.value c.passes_along.ensures.count

pub returns-clause-tries : goal.returns-clause-tries
returns-clause-tries g c = counted (list_tries c.args.at.now.closed.model.now c.args.at.now.d) c.args.tries.now
    (c.write_between-ends.ensures c.args.at.now.closed.model.now c.args.at.now.closed.well_formed c.requires.stands.tours_are)
    c.list.ensures.value c.as_slice.ensures.value c.passes_along.ensures.tries
