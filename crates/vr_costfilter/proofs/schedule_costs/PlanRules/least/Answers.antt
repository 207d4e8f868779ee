use Rattle.std.proofs.Common.{◌∙◌, ◌*◌, ℕ, List, cond, length, ap, sym, subst, arith}
use Rattle.std.specs.Prelude.{All, ℤ, pos, ◌*ℤ◌}
use Rattle.vr_model.specs.tables.Numbers.{below, number_at, total_by}
use Rattle.vr_model.specs.tables.Tables.{dimension_at}
use Rattle.vr_model.specs.declared.records.Model.{Model}
use Rattle.vr_model.proofs.routes.Lists.{empty_where, not_empty}
use Rattle.vr_plan.specs.Bounds.{cumul_cost}
use Rattle.vr_plan.proofs.BoundLemmas.{read-around}
use Rattle.vr_routes.specs.Pieces.{joined, no_part, part_at, IsWithin}
use Rattle.vr_earliest.specs.Ways.{least_span}
use Rattle.vr_costfilter.specs.EarlyParts.{AreEarlyInRange, AreEarlyParts}
use Rattle.vr_costfilter.proofs.schedule_costs.PlanRules.least.Goals as goal

-- what the spans of a list that has nodes cost at least
abbrev paid : Model → ℕ → List ℕ → ℤ
paid model v list = total_by (λ d. number_at (dimension_at model d).span_costs v *ℤ least_span model d v list) (below (length model.dimensions))

pub invariant_of-early : goal.invariant_of-early
invariant_of-early c = record { sound = subst (λ (m : Model). AreEarlyInRange m c.args.change.now c.args.earlies.now) (sym c.self.view_is) c.requires.earlies }

pub returns-then-nodes_in-eq0-clause-value : goal.returns-then-nodes_in-eq0-clause-value
returns-then-nodes_in-eq0-clause-value c lists are =
    let part = part_at c.args.change.now c.args.k in
    let list : List ℕ = joined lists part.pieces in
    let within = subst (All (IsWithin lists)) (sym c.pieces.ensures.value) (are.parts_are.each_within c.args.k no_part c.requires.part) in
    let none = c.nodes_in.ensures lists within ∙ ap (λ ps. length (joined lists ps)) c.pieces.ensures.value in
    sym (ap (λ b. cond b (pos 0) (paid c.args.self.now part.vehicle list)) (empty_where list (omega (arith, none, c.if-nodes_in-eq0.true))))

pub returns-clause-value : goal.returns-clause-value
returns-clause-value c lists are =
    let part = part_at c.args.change.now c.args.k in
    let list : List ℕ = joined lists part.pieces in
    let within = subst (All (IsWithin lists)) (sym c.pieces.ensures.value) (are.parts_are.each_within c.args.k no_part c.requires.part) in
    let some = c.nodes_in.ensures lists within ∙ ap (λ ps. length (joined lists ps)) c.pieces.ensures.value in
    let seen = subst (λ (m : Model). AreEarlyParts m lists c.args.change.now c.args.earlies.now) (sym c.self.view_is) are in
    read-around c.least_of_spans.result (cumul_cost * 4) c.least_of_spans.ensures.range (omega arith) ∙ c.least_of_spans.ensures.value lists seen
    ∙ ap (λ (m : Model). paid m part.vehicle list) c.self.view_is
    ∙ sym (ap (λ b. cond b (pos 0) (paid c.args.self.now part.vehicle list)) (not_empty list (omega (arith, some, c.if-nodes_in-eq0.false))))
