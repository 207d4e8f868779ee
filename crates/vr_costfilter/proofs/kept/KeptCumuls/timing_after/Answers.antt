use Rattle.std.proofs.Common.{◌≡◌, ◌∙◌, ◌<◌, ℕ, List, Bool, length, refl, ap, sym, subst, arith}
use Rattle.std.specs.Prelude.{◌↔◌, IsTrue, is_some, slice_index_or}
use Rattle.std.proofs.lemmas.Bool.{false≢true}
use Rattle.std.proofs.lemmas.List.{get_or_default}
use Rattle.vr_model.specs.routes.Routes.{route}
use Rattle.vr_model.specs.schedules.Lines.{line}
use Rattle.vr_model.specs.schedules.Schedules.{IsFeasible}
use Rattle.vr_routes.specs.Pieces.{joined}
use Rattle.vr_model.specs.tables.Tables.{no_vehicle, vehicle_at}
use Rattle.vr_model.specs.declared.records.Model.{Model}
use Rattle.vr_model.specs.declared.records.ScheduleRule.{ScheduleRule}
use Rattle.vr_model.specs.declared.records.Vehicle.{Vehicle}
use Rattle.vr_reach.specs.VisitRuns.{have_stops_one_run}
use Rattle.vr_costfilter.specs.Kept.{AreKept, IsKept, IsKnown, HasAllAsked}
use Rattle.vr_costfilter.specs.declared.kept.KeptList.{KeptList}
use Rattle.vr_costfilter.specs.Joined.{AreJoined}
use Rattle.vr_costfilter.specs.GuideRuns.{HasItsRuns, IsGuideBy}
use Rattle.vr_costfilter.specs.declared.guides.Guide.{Guide}
use Rattle.vr_costfilter.proofs.GuideLemmas.{of-guide}
use Rattle.vr_costfilter.proofs.kept.KeptCumuls.timing_after.Goals as goal

-- what is kept of its list, as the guide has it
read-kept : (g : Guide) {model : Model} {d v : ℕ} (lists : List (List ℕ)) {inside seen : List KeptList} {kept : KeptList} → g.model.now ≡ model
    → g.d ≡ d → g.v ≡ v → inside ≡ seen → AreKept model d lists seen → v < length inside → kept ≡ slice_index_or inside v kept
    → IsKept g.model.now g.d g.v (route lists g.v) kept
read-kept g {model} {d} {v} lists {inside} {seen} {kept} same_model same_dimension same_vehicle view are low is =
    of-guide g same_model same_dimension same_vehicle refl (λ m d v runs. IsKept m d v (route lists v) kept)
    (subst (IsKept model d v (route lists v)) (sym is) ((subst (AreKept model d lists) (sym view) are).each v kept low))

-- the rule of its vehicle is that of the guide's
rule-so : (g : Guide) {model : Model} {d v : ℕ} {vehicle : Vehicle} {rule : ScheduleRule} → g.model.now ≡ model
    → g.d ≡ d → g.v ≡ v → HasItsRuns g → vehicle_at model v ≡ vehicle → vehicle.schedule ≡ rule → IsGuideBy rule g
rule-so g {model} {d} {v} {vehicle} {rule} same_model same_dimension same_vehicle runs at is = record {
  runs = runs;
  rule_is = of-guide g same_model same_dimension same_vehicle refl (λ m d v runs. (vehicle_at m v).schedule ≡ rule) (ap (λ (w : Vehicle). w.schedule) at ∙ is);
}

pub invariant_of-asked : goal.invariant_of-asked
invariant_of-asked c =
    let e = c.in_ok-guide.ensures in
    let lists : List (List ℕ) = c.args.routes.now.lists in
    record {
      sound = subst (λ m. AreJoined m c.in_ok-guide.guide.v lists c.args.pieces.now c.args.splice) (sym e.model)
          (subst (λ v. AreJoined c.args.at.now.model.now v lists c.args.pieces.now c.args.splice) (sym e.vehicle) c.requires.joined.are);
    }

pub returns-then-v-len-clause-known : goal.returns-then-v-len-clause-known
returns-then-v-len-clause-known c =
    let same = ap length c.self.view_is in
    (λ e. absurd (false≢true e), λ told. (absurd (omega (arith, c.len.ensures, c.if-v-len.true, same, told.known))))

pub returns-in_err-guide-clause-known : goal.returns-in_err-guide-clause-known
returns-in_err-guide-clause-known c =
    (λ e. absurd (false≢true (sym (ap is_some c.from_residual.ensures) ∙ e)), λ told. absurd (false≢true (c.in_err-guide.ensures.known ∙ told.runs)))

-- what is kept of the list of vehicle v decides, by the rule of the vehicle
told-so : (model : Model) (d v u : ℕ) (lists : List (List ℕ)) (inside seen : List KeptList) → inside ≡ seen
    → (kept : KeptList) → v < length inside → kept ≡ slice_index_or inside v kept → IsTrue (have_stops_one_run model d v) → u ≡ v
    → {vehicle : Vehicle} {rule : ScheduleRule} → vehicle_at model v ≡ vehicle → vehicle.schedule ≡ rule → (some : Bool)
    → IsTrue some ↔ HasAllAsked rule (route lists u) kept → IsTrue some ↔ IsKnown model d v (route lists v) seen
told-so model d v u lists inside seen view kept low read one same {vehicle} {rule} at is some known =
    let list : List ℕ = route lists v in
    let here : (vehicle_at model v).schedule ≡ rule = ap (λ (w : Vehicle). w.schedule) at ∙ is in
    let asked : HasAllAsked rule (route lists u) kept → HasAllAsked (vehicle_at model v).schedule list kept =
    λ h. subst (λ (r : ScheduleRule). HasAllAsked r list kept) (sym here) (subst (λ w. HasAllAsked rule (route lists w) kept) same h) in
    let back : HasAllAsked (vehicle_at model v).schedule list kept → HasAllAsked rule (route lists u) kept =
    λ h. subst (λ w. HasAllAsked rule (route lists w) kept) (sym same) (subst (λ (r : ScheduleRule). HasAllAsked r list kept) here h) in
    subst (λ (l : List KeptList). IsTrue some ↔ IsKnown model d v list l) view (
      λ h. record {
        known = low;
        runs = one;
        tells = λ other. subst (HasAllAsked (vehicle_at model v).schedule list) (read ∙ get_or_default inside v kept other low) (asked (known.0 h));
      },
      λ told. known.1 (back (subst (HasAllAsked (vehicle_at model v).schedule list) (sym read) (told.tells kept))),
    )

pub returns-in-Earliest-clause-known : goal.returns-in-Earliest-clause-known
returns-in-Earliest-clause-known c =
    let e = c.in_ok-guide.ensures in
    let guide = c.in_ok-guide.guide in
    let new : List ℕ = joined c.args.routes.now.lists c.args.pieces.now in
    let feasible = subst (λ u. IsFeasible (line c.args.at.now.model.now c.args.at.now.d u new)) (sym e.vehicle) c.requires.joined.feasible in
    let by_guide = subst (λ w. IsFeasible (line w guide.d guide.v new)) (sym e.model)
    (subst (λ n. IsFeasible (line c.args.at.now.model.now n guide.v new)) (sym e.dimension) feasible) in
    told-so c.args.at.now.model.now c.args.at.now.d c.args.splice.vehicle guide.v c.args.routes.now.lists c.self.inside.lists.items c.args.self.now
    c.self.view_is c.index-kept.result.now (omega (arith, c.len.ensures, c.if-v-len.false)) c.index-kept.ensures (sym e.known) e.vehicle
    (c.get-vehicle.ensures.value no_vehicle) c.in-Earliest.is (is_some c.earliest_after.result) (c.earliest_after.ensures.known by_guide)

pub returns-in-Tight-clause-known : goal.returns-in-Tight-clause-known
returns-in-Tight-clause-known c =
    let e = c.in_ok-guide.ensures in
    told-so c.args.at.now.model.now c.args.at.now.d c.args.splice.vehicle c.in_ok-guide.guide.v c.args.routes.now.lists c.self.inside.lists.items
    c.args.self.now c.self.view_is c.index-kept.result.now (omega (arith, c.len.ensures, c.if-v-len.false)) c.index-kept.ensures (sym e.known) e.vehicle
    (c.get-vehicle.ensures.value no_vehicle) c.in-Tight.is (is_some c.tight_after.result) c.tight_after.ensures.known

pub earliest_after-requires : goal.earliest_after-requires
earliest_after-requires c =
    let e = c.in_ok-guide.ensures in
    record {
      by = rule-so c.in_ok-guide.guide e.model e.dimension e.vehicle e.runs (c.get-vehicle.ensures.value no_vehicle) c.in-Earliest.is;
      of_old = read-kept c.in_ok-guide.guide c.args.routes.now.lists e.model e.dimension e.vehicle
          c.self.view_is c.requires.kept (omega (arith, c.len.ensures, c.if-v-len.false)) c.index-kept.ensures;
    }

pub tight_after-requires-clause-kept : goal.tight_after-requires-clause-kept
tight_after-requires-clause-kept c =
    let e = c.in_ok-guide.ensures in
    record {
      by = rule-so c.in_ok-guide.guide e.model e.dimension e.vehicle e.runs (c.get-vehicle.ensures.value no_vehicle) c.in-Tight.is;
      of_old = read-kept c.in_ok-guide.guide c.args.routes.now.lists e.model e.dimension e.vehicle
          c.self.view_is c.requires.kept (omega (arith, c.len.ensures, c.if-v-len.false)) c.index-kept.ensures;
    }
