use Rattle.std.proofs.Common.{◌≡◌, ◌∙◌, ap, arith, sym, subst}
use Rattle.std.specs.Prelude.{Some, IsTrue}
use Rattle.std.proofs.lemmas.Int.{ints}
use Rattle.std.specs.Option.{option_map}
use Rattle.vr_rules.specs.Placing.{item_nodes}
use Rattle.vr_rules.proofs.TotalLemmas.{read}
use Rattle.vr_ruin.specs.declared.ranking.Priced.{Priced}
use Rattle.vr_ruin.specs.Cheapest.{IsCheapest, IsOfferWithin}
use Rattle.vr_ruin.specs.Makings.{MayBeMade}
use Rattle.vr_ruin.specs.Offers.{offer, price_of}
use Rattle.vr_ruin.specs.Placings.{insertion_of}
use Rattle.vr_ruin.specs.Ranks.{insertion_at}
use Rattle.vr_ruin.specs.Timeless.{is_timeless, AddsToArcs}
use Rattle.vr_ruin.proofs.CheapestLemmas.{cheaper-is, given-is, none-first, some-first}
use Rattle.vr_ruin.proofs.MakingLemmas.{may_be_made}
use Rattle.vr_ruin.proofs.cheapest.take_offer.Goals.{In-Some, After-price_by_arcs-price}
use Rattle.vr_ruin.proofs.cheapest.take_offer.Goals as goal

-- what is found is the offer of the vehicle
given : (c : In-Some)
    → (option_map insertion_of (Some c.in-Some.offer) ≡ offer c.args.trial.now.model c.args.trial.now.lists (item_nodes c.args.item) c.args.v)
    × AddsToArcs c.args.trial.now.model c.args.trial.now.lists c.in-Some.offer
given c =
    let t = c.args.trial.now in
    given-is c.in-Some.offer
    (subst (IsOfferWithin t.model t.lists (item_nodes c.args.item) c.args.v c.limit_beside-limit.result) c.in-Some.is c.in_ok-found.ensures.offer)

may : (c : In-Some) → MayBeMade c.args.trial.now.model c.args.trial.now.lists c.in-Some.offer
may c = may_be_made c.args.trial.now.model c.args.trial.now.lists c.know.ensures.built
    c.know.ensures.well_formed c.args.item c.args.v c.in-Some.offer c.requires.item c.requires.vehicle (given c).0

pub price_by_arcs-price-requires-clause-offer : goal.price_by_arcs-price-requires-clause-offer
price_by_arcs-price-requires-clause-offer c =
    let at = (goal.at.price_by_arcs-price-requires-clause-offer c).In-Some in
    subst (λ t. MayBeMade t.model t.lists c.in-Some.offer) (sym c.in_ok-found.ensures.trial) (may at)

pub price_by_arcs-price-requires-clause-adds : goal.price_by_arcs-price-requires-clause-adds
price_by_arcs-price-requires-clause-adds c =
    let at = (goal.at.price_by_arcs-price-requires-clause-adds c).In-Some in
    subst (λ t. AddsToArcs t.model t.lists c.in-Some.offer) (sym c.in_ok-found.ensures.trial) (given at).1

pub price_by_arcs-price-requires-clause-timeless : goal.price_by_arcs-price-requires-clause-timeless
price_by_arcs-price-requires-clause-timeless c = subst (λ t. IsTrue (is_timeless t.model)) (sym c.in_ok-found.ensures.trial) c.requires.timeless

abbrev priced : After-price_by_arcs-price → Priced
priced c = record { offer = c.in-Some.offer; price = read c.price_by_arcs-price.result }

is-cheapest : (c : After-price_by_arcs-price) → IsCheapest c.args.trial.now.model c.args.trial.now.lists (priced c)
is-cheapest c =
    let t = c.args.trial.now in
    let range = c.price_by_arcs-price.ensures.price_range in
    let same : read c.price_by_arcs-price.result ≡ c.price_by_arcs-price.result = omega (arith, ints, range.low, range.high) in
    record {
      ranked = record {
        may =
            may_be_made t.model t.lists c.know.ensures.built c.know.ensures.well_formed c.args.item c.args.v c.in-Some.offer c.requires.item c.requires.vehicle
            (given-is c.in-Some.offer
            (subst (IsOfferWithin t.model t.lists (item_nodes c.args.item) c.args.v c.limit_beside-limit.result)
            c.in-Some.is c.in_ok-found.ensures.offer)).0;
        price = same ∙ c.price_by_arcs-price.ensures.price ∙ ap (λ t. price_of t.model t.lists (insertion_of c.in-Some.offer)) c.in_ok-found.ensures.trial;
      };
      range = record { low = omega (arith, ints, range.low, range.high); high = omega (arith, ints, range.low, range.high) };
    }

pub returns-in-None-clause-first : goal.returns-in-None-clause-first
returns-in-None-clause-first c =
    let t = c.args.trial.now in
    let nodes = item_nodes c.args.item in
    none-first t.model t.lists c.requires.timeless nodes c.args.v c.requires.vehicle c.args.best c.requires.best
    (subst (λ limit. IsOfferWithin t.model t.lists nodes c.args.v limit _) c.limit_beside-limit.ensures
    (subst (IsOfferWithin t.model t.lists nodes c.args.v c.limit_beside-limit.result) c.in-None.is c.in_ok-found.ensures.offer))

pub returns-in-Some-clause-best : goal.returns-in-Some-clause-best
returns-in-Some-clause-best c =
    let t = c.args.trial.now in
    let at = (goal.at.returns-in-Some-clause-best c).After-price_by_arcs-price in
    subst (IsCheapest t.model t.lists) (sym c.cheaper.ensures) (cheaper-is t.model t.lists c.args.best (priced at) c.requires.best (is-cheapest at))

pub returns-in-Some-clause-first : goal.returns-in-Some-clause-first
returns-in-Some-clause-first c = λ xs before.
    let t = c.args.trial.now in
    let at = (goal.at.returns-in-Some-clause-first c).After-price_by_arcs-price in
    let here = (goal.at.returns-in-Some-clause-first c).In-Some in
    ap (λ p. option_map insertion_at (Some p)) c.cheaper.ensures
    ∙ some-first t.model t.lists c.requires.timeless (item_nodes c.args.item) c.args.v c.requires.vehicle
    c.args.best (priced at) c.requires.best (is-cheapest at).ranked (given here).0 xs before
