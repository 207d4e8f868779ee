use Rattle.std.proofs.Common.{◌≡◌, ◌∙◌, ◌+◌, ◌-◌, ◌++◌, ◌<◌, ℕ, List, Some, ap, sym, subst, arith, length}
use Rattle.std.specs.Option.{option_map}
use Rattle.std.proofs.lemmas.List.{length-set}
use Rattle.vr_model.specs.routes.Routes.{route}
use Rattle.vr_model.proofs.routes.Lists.{route_set_same}
use Rattle.vr_rules.specs.Fronts.{AreFrontsOf}
use Rattle.vr_model.specs.first.PathCheapestArc.{filled, next_appended, appended}
use Rattle.vr_rules.specs.Placing.{item_nodes, AreBuilt, AreMarks}
use Rattle.vr_rules.proofs.PlacingLemmas.{IsAdded, AreBuilt-added, AreMarks-added}
use Rattle.vr_first_arc.specs.Choices.{MayBeAppended}
use Rattle.vr_first_arc.proofs.AppendLemmas.{filled-stops, filled-next, candidates-count, IsAdded-appended, IsDriven-item}
use Rattle.vr_first_arc.proofs.fill.fill.Goals as goal

pub returns-in-None-clause-filled : goal.returns-in-None-clause-filled
returns-in-None-clause-filled c =
    let model = c.args.filling.now.lookups.now.closed.model.now in
    sym (filled-stops model c.args.v (length c.args.filling.now.candidates.now - c.loop-step._step)
    c.loop-step.lists (sym c.in_ok-item.ensures.next ∙ ap (option_map item_nodes) c.in-None.is))
    ∙ c.loop-step.invariant.fills
    ∙ ap (λ n. filled model c.args.v n c.args.lists.now) (candidates-count model c.args.filling.now.candidates.now c.requires.filling)

pub place-requires-clause-longer : goal.place-requires-clause-longer
place-requires-clause-longer c =
    let model = c.args.filling.now.lookups.now.closed.model.now in
    let lists : List (List ℕ) = c.loop-step.lists in
    let may : MayBeAppended model lists c.args.v c.in-Some.item = rw c.in-Some.is at c.in_ok-item.ensures.may in
    IsDriven-item model lists c.args.v c.loop-step.invariant.built
    (omega (arith, c.requires.vehicle, c.loop-step.invariant.count)) c.in-Some.item may.is_item may.inactive

pub loop-step-preserved : goal.loop-step-preserved
loop-step-preserved c =
    let model = c.args.filling.now.lookups.now.closed.model.now in
    let v : ℕ = c.args.v in
    let lists : List (List ℕ) = c.loop-step.lists in
    let n : ℕ = length c.args.filling.now.candidates.now in
    let nodes : List ℕ = item_nodes c.in-Some.item in
    let low : v < length lists = omega (arith, c.requires.vehicle, c.loop-step.invariant.count) in
    let may : MayBeAppended model lists v c.in-Some.item = rw c.in-Some.is at c.in_ok-item.ensures.may in
    let added : IsAdded model lists v nodes (route lists v ++ nodes) = IsAdded-appended model
    lists v c.loop-step.invariant.built low c.in-Some.item may.is_item may.inactive in
    let next : next_appended model lists v ≡ Some nodes = sym c.in_ok-item.ensures.next ∙ ap (option_map item_nodes) c.in-Some.is in
    let is : c.place.new.lists ≡ appended lists v nodes = c.in_ok-place-in-Some.ensures.lists in
    record {
      fills = ap (filled model v (n - (c.loop-step._step + 1))) is
          ∙ sym (filled-next model v (n - c.loop-step._step) (n - (c.loop-step._step + 1)) lists nodes next (omega arith)) ∙ c.loop-step.invariant.fills;
      count = ap length is ∙ length-set lists v (route lists v ++ nodes) ∙ c.loop-step.invariant.count;
      fronts = subst (λ list. AreFrontsOf model v list c.place.new.fronts)
          (sym (ap (λ ls. route ls v) is ∙ route_set_same lists v (route lists v ++ nodes) low)) c.in_ok-place-in-Some.ensures.fronts;
      built = subst (AreBuilt model) (sym is) (AreBuilt-added model lists v nodes (route lists v ++ nodes) c.loop-step.invariant.built added may.stays_open);
      marked = subst (λ lists. AreMarks model.nodes lists c.mark_item.new.marks) (sym is)
          (AreMarks-added model lists v (route lists v ++ nodes) nodes c.loop-step.marks c.mark_item.new.marks
          c.loop-step.invariant.marked low added.nodes_are c.mark_item.ensures.count c.mark_item.ensures.each);
    }
