use Rattle.std.proofs.Common.{◌≡◌, ◌++◌, List, [], None, false, refl, subst}
use Rattle.std.specs.Prelude.{filter}
use Rattle.std.specs.Option.{option_map}
use Rattle.std.proofs.lemmas.Result.{IfOk-weaker}
use Rattle.vr_model.specs.routes.Routes.{used_vehicles, vehicles}
use Rattle.vr_model.specs.first.CheapestInsertion.{Insertion}
use Rattle.vr_rules.specs.Placing.{item_nodes}
use Rattle.vr_strings.specs.Sorting.{sorted_by}
use Rattle.vr_ruin.specs.Cheapest.{first_in}
use Rattle.vr_ruin.specs.Makings.{is_asked}
use Rattle.vr_ruin.specs.Offers.{empty_vehicles, offers_of, rank_key}
use Rattle.vr_ruin.specs.Ranks.{insertion_at}
use Rattle.vr_ruin.proofs.CheapestLemmas.{narrow-none, narrow-some}
use Rattle.vr_ruin.proofs.cheapest.cheapest_narrow.Goals as goal

pub returns-then-is_some-clause-first : goal.returns-then-is_some-clause-first
returns-then-is_some-clause-first c =
    let t = c.args.trial.now in
    let nodes = item_nodes c.args.item in
    let used = offers_of t.model t.lists nodes (used_vehicles t.lists) in
    let others = offers_of t.model t.lists nodes (empty_vehicles t.lists) in
    narrow-some t.model t.lists used others c.in_ok-best.best (c.in_ok-best.ensures.first [] refl) c.is_some.result c.is_some.ensures c.if-is_some.true

pub returns-clause-first : goal.returns-clause-first
returns-clause-first c =
    let t = c.args.trial.now in
    let nodes = item_nodes c.args.item in
    let used = offers_of t.model t.lists nodes (used_vehicles t.lists) in
    let others = offers_of t.model t.lists nodes (empty_vehicles t.lists) in
    IfOk-weaker c.cheapest_among-2.result _ _
    (λ best first. narrow-none t.model t.lists used others c.in_ok-best.best best
    (c.in_ok-best.ensures.first [] refl) c.is_some.result c.is_some.ensures c.if-is_some.false
    (subst (λ t. (xs : List Insertion) → option_map insertion_at None ≡ first_in (sorted_by (rank_key t.model t.lists) xs)
    → option_map insertion_at best
    ≡ first_in (sorted_by (rank_key t.model t.lists) (offers_of t.model t.lists nodes (filter (is_asked t.lists false) (vehicles t.lists)) ++ xs)))
    c.in_ok-best.ensures.trial first [] refl)) c.cheapest_among-2.ensures.first
