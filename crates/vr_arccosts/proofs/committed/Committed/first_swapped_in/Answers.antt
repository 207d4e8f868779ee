use Rattle.std.proofs.Common.{◌≡◌, ◌∙◌, ◌<◌, ◌≤◌, ℕ, List, length, not, sym, ap, subst}
use Rattle.std.specs.Prelude.{◌≤ℤ◌, slice_index, All}
use Rattle.std.specs.List.Sorted.{IsStrictlyIncreasing}
use Rattle.std.proofs.lemmas.List.Elements.{All-filter}
use Rattle.std.proofs.lemmas.List.Kept.{IsStrictlyIncreasing-filter}
use Rattle.vr_model.specs.routes.Routes.{is_active, route}
use Rattle.vr_model.specs.tables.Tables.{visits}
use Rattle.vr_model.specs.declared.records.Model.{Model}
use Rattle.vr_model.proofs.routes.Lists.{place_of_held}
use Rattle.vr_routes.specs.Tours.{inactive_of}
use Rattle.vr_routes.proofs.TourLemmas.{visits_ascend, visits_below}
use Rattle.vr_arccosts.specs.Runs.{swap_added}
use Rattle.vr_arccosts.proofs.LineLemmas.{least-told}
use Rattle.vr_arccosts.proofs.SwapLemmas.{newcomer-held, swap-in-no-less}
use Rattle.vr_arccosts.proofs.committed.Committed.first_swapped_in.Goals as goal

pub first_newcomer-requires-clause-nodes : goal.first_newcomer-requires-clause-nodes
first_newcomer-requires-clause-nodes c =
    let model : Model = c.args.self.kept.now.model in
    let lists : List (List ℕ) = c.args.self.routes.now.lists in
    let idle : c.inactive-visits.result.now ≡ inactive_of (visits model) lists = c.inactive-visits.ensures.value
    ∙ ap (λ l. inactive_of l lists) c.args.self.stands.of_model in
    subst (λ (m : Model). All (λ node. node < m.nodes) c.inactive-visits.result.now) (sym c.line_of-line.ensures.model)
    (subst (λ l. All (λ node. node < model.nodes) l) (sym idle)
    (All-filter (λ node. not (is_active lists node)) (λ node. node < model.nodes) (visits model) (visits_below model)))

pub first_newcomer-requires-clause-ascending : goal.first_newcomer-requires-clause-ascending
first_newcomer-requires-clause-ascending c =
    let model : Model = c.args.self.kept.now.model in
    let lists : List (List ℕ) = c.args.self.routes.now.lists in
    let idle : c.inactive-visits.result.now ≡ inactive_of (visits model) lists = c.inactive-visits.ensures.value
    ∙ ap (λ l. inactive_of l lists) c.args.self.stands.of_model in
    subst IsStrictlyIncreasing (sym idle) (IsStrictlyIncreasing-filter (λ node. not (is_active lists node)) (visits model) (visits_ascend model))

pub returns-clause-no_less : goal.returns-clause-no_less
returns-clause-no_less c u low high one =
    let a = c.args in
    let model : Model = a.self.kept.now.model in
    let lists : List (List ℕ) = a.self.routes.now.lists in
    let idle : c.inactive-visits.result.now ≡ inactive_of (visits model) lists = c.inactive-visits.ensures.value
    ∙ ap (λ l. inactive_of l lists) a.self.stands.of_model in
    let at = place_of_held (inactive_of (visits model) lists) u (newcomer-held model lists a.v a.a u one) in
    let here : slice_index c.inactive-visits.result.now at.0 ≡ u = ap (λ l. slice_index l at.0) idle ∙ at.2 in
    let told = c.first_newcomer.ensures.no_less at.0 (subst (λ l. at.0 < length l) (sym idle) at.1)
    (subst (λ y. a.asked.from ≤ y) (sym here) low) (subst (λ y. y < c.first_newcomer.result) (sym here) high) in
    let line = c.line_of-line.ensures in
    swap-in-no-less model lists a.v a.a u a.asked.bound (subst (λ y. a.asked.bound ≤ℤ swap_added model a.v (route lists a.v) a.a y) here
    (least-told a.asked.bound (λ m n l. swap_added m n l a.a (slice_index c.inactive-visits.result.now at.0)) line.model line.vehicle line.list told)) one
