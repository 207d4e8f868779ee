-- What it means that a printed solution meets all rules.
use Rattle.std.proofs.Common.{◌≡◌, ℕ, length, Option, Some, None, refl, ◌∙◌}
use Rattle.std.specs.Prelude.{ℤ, IsTrue, int_le}
use Rattle.std.proofs.lemmas.List.{length-map}
use Rattle.vr_model.specs.tables.Numbers.{is_same_number}
use Rattle.vr_model.specs.routes.Costs.{parts_at, sum_of}
use Rattle.vr_model.specs.deciding.Testing.{eq_of_tests, le_of_test}
use Rattle.vr_model.specs.declared.records.Model.{Model}
use Rattle.vr_model.specs.declared.records.Parts.{Parts}
use Rattle.vr_check.specs.Findings.{spot_of_none, nowhere}
use Rattle.vr_printed.specs.Printed.{visits_of, lists_of, assignment_of}
use Rattle.vr_printed.specs.Shape.{are_routes_shaped, printed_in}
use Rattle.vr_model.specs.routes.Routes.{is_same, inactive}
use Rattle.vr_model.proofs.routes.Lists.{same_of_test}
use Rattle.vr_check.specs.Parts.{part_broken, parts_differ, is_within_limits}
use Rattle.vr_check.specs.Check.{finding, finding_in, lists_finding}
use Rattle.vr_check.specs.Laws.{KeepsAllRules, MetKeepsAllRules}
use Rattle.vr_check.specs.declared.finding.Finding.TheVariants.{Meets}
use Rattle.vr_printed.specs.declared.printed.Printed.{Printed}
use Rattle.vr_check.proofs.Nothing.{through, both_none, is_right}
use Rattle.vr_printed.proofs.Shaped.{routes_count, printed_shaped}
use Rattle.vr_check.proofs.PrintedLists.{ends_stops, ends_visits}
use Rattle.vr_check.proofs.Valid.{route_is_open, lists_valid_from}
use Rattle.vr_check.proofs.Scheduled.{plans_scheduled, lines_feasible}

part_is : (k : ℕ) (x y : ℤ) → part_broken k x y ≡ None → x ≡ y
part_is k x y h = eq_of_tests x y (is_right (is_same_number x y) (spot_of_none k) h)

parts_are : (p q : Parts) → parts_differ p q ≡ None → p ≡ q
parts_are p q h =
    let a = both_none (part_broken 0 p.arcs q.arcs) _ h in
    let b = both_none (part_broken 1 p.fixed q.fixed) _ a.1 in
    let g = both_none (part_broken 2 p.global q.global) _ b.1 in
    let d = both_none (part_broken 3 p.penalty q.penalty) _ g.1 in
    let e = both_none (part_broken 4 p.soft q.soft) _ d.1 in
    let x0 = part_is 0 p.arcs q.arcs a.0 in
    let x1 = part_is 1 p.fixed q.fixed b.0 in
    let x2 = part_is 2 p.global q.global g.0 in
    let x3 = part_is 3 p.penalty q.penalty d.0 in
    let x4 = part_is 4 p.soft q.soft e.0 in
    let x5 = part_is 5 p.span q.span e.1 in
    λ t. record { arcs = x0 t; fixed = x1 t; global = x2 t; penalty = x3 t; soft = x4 t; span = x5 t }

same_cost : (a b : ℤ) → Meets a ≡ Meets b → b ≡ a
same_cost a b h = cc

keeps : (model : Model) (printed : Printed) (cost : ℤ) → IsTrue (are_routes_shaped model printed.routes)
    → lists_finding model printed (lists_of printed.routes) ≡ Meets cost → KeepsAllRules model printed cost
keeps model printed cost shaped h =
    let lists = lists_of printed.routes in
    let routes = printed.routes in
    let ends = through _ _ _ cost h in
    let once = through _ _ _ cost ends.1 in
    let dropped = through _ _ _ cost once.1 in
    let required = through _ _ _ cost dropped.1 in
    let group = through _ _ _ cost required.1 in
    let pair = through _ _ _ cost group.1 in
    let policy = through _ _ _ cost pair.1 in
    let allowed = through _ _ _ cost policy.1 in
    let cumul = through _ _ _ cost allowed.1 in
    let slack = through _ _ _ cost cumul.1 in
    let taken = through _ _ _ cost slack.1 in
    let parts = through _ _ _ cost taken.1 in
    let sum = through _ _ _ cost parts.1 in
    let first = through _ _ _ cost sum.1 in
    let limits = through _ _ _ cost first.1 in
    let count : length lists ≡ length model.vehicles = length-map routes visits_of ∙ routes_count model routes shaped in
    record {
      nodes_are_stops = ends_stops model routes shaped ends.0;
      dropped_are_inactive = same_of_test printed.dropped (inactive model lists) (is_right (is_same printed.dropped (inactive model lists)) nowhere dropped.0);
      lists_valid = lists_valid_from model lists count (ends_visits model routes ends.0) once.0 required.0 group.0
          (λ v low. route_is_open model lists pair.0 policy.0 allowed.0 v low
          (λ some d less. lines_feasible model routes shaped cumul.0 slack.0 taken.0 d v less low some));
      plans_are_schedules = plans_scheduled model routes shaped cumul.0 slack.0 taken.0;
      parts_are_those = parts_are printed.parts (parts_at model (assignment_of routes)) parts.0;
      cost_is_printed = same_cost printed.cost cost limits.1;
      cost_is_sum = eq_of_tests _ _ (is_right (is_same_number printed.cost (sum_of printed.parts)) nowhere sum.0);
      cost_at_most_first = le_of_test _ _ (is_right (int_le printed.cost printed.first_cost) nowhere first.0);
      within_limits = is_right (is_within_limits model printed) nowhere limits.0;
    }

pub met_keeps_all_rules : MetKeepsAllRules
unfolding finding
met_keeps_all_rules model d cost well h = by (printed_in model d) refl h
  where
    by : (read : Option Printed) → printed_in model d ≡ read → finding_in model read ≡ Meets cost
        → (printed : Printed) × (printed_in model d ≡ Some printed) × KeepsAllRules model printed cost
    by None e h = absurd (cc)
    by (Some printed) e h = (printed, e, keeps model printed cost (printed_shaped model d printed e) h)
