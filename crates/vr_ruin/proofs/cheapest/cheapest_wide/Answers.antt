use Rattle.std.proofs.Common.{◌≡◌, ◌++◌, List, [], true, refl, subst}
use Rattle.std.specs.Prelude.{filter}
use Rattle.std.specs.Option.{option_map}
use Rattle.std.proofs.lemmas.Result.{IfOk-weaker}
use Rattle.vr_model.specs.routes.Routes.{used_vehicles, vehicles}
use Rattle.vr_model.specs.first.CheapestInsertion.{Insertion}
use Rattle.vr_rules.specs.Placing.{item_nodes}
use Rattle.vr_strings.specs.Sorting.{sorted_by}
use Rattle.vr_ruin.specs.Cheapest.{first_in}
use Rattle.vr_ruin.specs.Makings.{is_asked}
use Rattle.vr_ruin.specs.Offers.{empty_vehicles, offers_of, rank_key}
use Rattle.vr_ruin.specs.Ranks.{insertion_at}
use Rattle.vr_ruin.proofs.CheapestLemmas.{both-first}
use Rattle.vr_ruin.proofs.cheapest.cheapest_wide.Goals as goal

pub returns-clause-first : goal.returns-clause-first
returns-clause-first c =
    let t = c.args.trial.now in
    let nodes = item_nodes c.args.item in
    let used = offers_of t.model t.lists nodes (used_vehicles t.lists) in
    let others = offers_of t.model t.lists nodes (empty_vehicles t.lists) in
    IfOk-weaker c.cheapest_among-2.result _ _ (λ best first. both-first t.model t.lists used others best
    (subst (λ t. (xs : List Insertion) → option_map insertion_at c.in_ok-best.best ≡ first_in (sorted_by (rank_key t.model t.lists) xs)
    → option_map insertion_at best
    ≡ first_in (sorted_by (rank_key t.model t.lists) (offers_of t.model t.lists nodes (filter (is_asked t.lists true) (vehicles t.lists)) ++ xs)))
    c.in_ok-best.ensures.trial first (others ++ [])
    (c.in_ok-best.ensures.first [] refl))) c.cheapest_among-2.ensures.first
