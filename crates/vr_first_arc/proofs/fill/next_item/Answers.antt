use Rattle.std.proofs.Common.{◌≡◌, ◌∙◌, ◌<◌, ◌++◌, All, ℕ, ap, sym, subst, get_or, arith}
use Rattle.std.specs.Prelude.{IfSome}
use Rattle.std.specs.Option.{option_map}
use Rattle.std.proofs.lemmas.List.{get_or_default}
use Rattle.vr_rules.specs.declared.items.Item.{Item}
use Rattle.vr_model.specs.routes.Routes.{route}
use Rattle.vr_rules.specs.declared.items.Candidate.{Candidate}
use Rattle.vr_rules.specs.declared.items.Item.TheVariants.{Visit}
use Rattle.vr_rules.specs.Placing.{item_nodes, IsCandidate}
use Rattle.vr_lists.proofs.VisitLists.{visits-below}
use Rattle.vr_rules.proofs.PlacingLemmas.{built-count, built-visits, open-route}
use Rattle.vr_model.specs.routes.Rules.{is_route_open}
use Rattle.vr_rules.proofs.PenaltyLemmas.{groups_fit-open}
use Rattle.vr_rules.specs.Fronts.{AreFrontsOf, IsDriven}
use Rattle.vr_first_arc.specs.Choices.{chosen_beside, MayBeAppended}
use Rattle.vr_first_arc.proofs.AppendLemmas.{best-begin, best-more, best-end, may-of-best, list_at, inactive_by, IsDriven-item}
use Rattle.vr_first_arc.proofs.fill.next_item.Goals as goal

-- the candidate that code reads where there is none
abbrev unread : Candidate
unread = record { item = Visit 0; class = 0 }

pub loop-candidate-init : goal.loop-candidate-init
loop-candidate-init c = best-begin c.args.filling.now.lookups.now.closed.model.now c.args.lists.now c.args.v c.requires.built
    c.requires.vehicle c.args.filling.now.lookups.now.closed.well_formed c.args.marks.now c.requires.marks c.args.filling.now.candidates.now

pub consider_candidate-requires-clause-growing : goal.consider_candidate-requires-clause-growing
consider_candidate-requires-clause-growing c =
    let model = c.args.filling.now.lookups.now.closed.model.now in
    let lists = c.args.lists.now in
    let v = c.args.v in
    let many = built-count model lists c.requires.built in
    let list : c.as_slice-list.result.now ≡ route lists v = list_at lists v c.as_slice-list.result.now
    c.index-lists-v.result c.as_slice-list.ensures c.index-lists-v.is c.requires.vehicle in
    let Below : ℕ → Type 0 = λ node. node < model.nodes in
    record {
      filling = c.requires.filling;
      vehicle = omega (arith, many, c.requires.vehicle);
      nodes = subst (All Below) (sym list) (visits-below model (route lists v) (built-visits model lists v c.requires.built));
      stands = ap (is_route_open model v) list ∙ open-route model lists v c.requires.built.are_open c.requires.vehicle;
      fronts = subst (λ list. AreFrontsOf model v list c.args.fronts.now) (sym list) c.requires.fronts;
      marks = c.requires.marks.one_of_each;
      fit = groups_fit-open model c.args.filling.now.lookups.now.closed.well_formed lists c.args.marks.now c.requires.marks c.requires.built.are_open;
    }

pub consider_candidate-requires-clause-longer : goal.consider_candidate-requires-clause-longer
consider_candidate-requires-clause-longer c =
    let model = c.args.filling.now.lookups.now.closed.model.now in
    let lists = c.args.lists.now in
    let candidate : Candidate = get_or c.args.filling.now.candidates.now c.loop-candidate.candidate-index unread in
    let valid : IsCandidate model candidate = c.requires.filling.each c.loop-candidate.candidate-index unread c.loop-candidate-test.true in
    let list : c.as_slice-list.result.now ≡ route lists c.args.v = list_at lists c.args.v c.as_slice-list.result.now
    c.index-lists-v.result c.as_slice-list.ensures c.index-lists-v.is c.requires.vehicle in
    λ free. subst (λ list. IsDriven model (list ++ item_nodes candidate.item)) (sym list)
    (IsDriven-item model lists c.args.v c.requires.built c.requires.vehicle candidate.item valid.item
    (inactive_by model lists c.args.marks.now c.requires.marks candidate.item valid.item free))

pub loop-candidate-preserved : goal.loop-candidate-preserved
loop-candidate-preserved c =
    let model = c.args.filling.now.lookups.now.closed.model.now in
    let lists = c.args.lists.now in
    let i : ℕ = c.loop-candidate.candidate-index in
    let candidate : Candidate = get_or c.args.filling.now.candidates.now i unread in
    let valid : IsCandidate model candidate = c.requires.filling.each i unread c.loop-candidate-test.true in
    let list : c.as_slice-list.result.now ≡ route lists c.args.v = list_at lists c.args.v c.as_slice-list.result.now
    c.index-lists-v.result c.as_slice-list.ensures c.index-lists-v.is c.requires.vehicle in
    best-more model lists c.args.v c.requires.built c.requires.vehicle c.args.filling.now.lookups.now.closed.well_formed
    c.args.marks.now c.requires.marks c.args.filling.now.candidates.now i candidate c.loop-candidate.best _
    c.loop-candidate-test.true (get_or_default c.args.filling.now.candidates.now i candidate unread c.loop-candidate-test.true) valid c.loop-candidate.invariant
    (c.in_ok-best.ensures ∙ ap (λ list. chosen_beside model c.args.v list c.args.marks.now candidate c.loop-candidate.best) list)

pub returns-clause-next : goal.returns-clause-next
returns-clause-next c =
    ap (option_map item_nodes) c.item_of.ensures
    ∙ best-end c.args.filling.now.lookups.now.closed.model.now c.args.lists.now c.args.v c.requires.built c.requires.vehicle
    c.args.filling.now.lookups.now.closed.well_formed c.args.marks.now c.requires.marks c.args.filling.now.candidates.now c.loop-candidate.candidate-index
    c.loop-candidate.best c.requires.filling c.loop-candidate-test.false c.loop-candidate.invariant

pub returns-clause-may : goal.returns-clause-may
returns-clause-may c =
    let May : Item → Type 0 = MayBeAppended c.args.filling.now.lookups.now.closed.model.now c.args.lists.now c.args.v in
    subst (λ item. IfSome item May) (sym c.item_of.ensures) (may-of-best May c.loop-candidate.best c.loop-candidate.invariant.good)
