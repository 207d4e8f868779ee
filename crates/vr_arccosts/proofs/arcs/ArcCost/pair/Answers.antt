use Rattle.std.proofs.Common.{◌≡◌, ◌∙◌, ◌<◌, ap, sym, subst}
use Rattle.vr_model.specs.tables.Tables.{pair_at}
use Rattle.vr_model.specs.declared.records.Pair.{Pair}
use Rattle.vr_model.proofs.routes.Lists.{visit_below}
use Rattle.vr_arccosts.proofs.arcs.ArcCost.pair.Goals as goal

pub returns-clause-value : goal.returns-clause-value
returns-clause-value c = sym (c.get.ensures.value (record { pickup = 0; delivery = 0 })) ∙ ap (λ k. pair_at k.model c.args.p) c.self.view_is

pub returns-clause-pickup : goal.returns-clause-pickup
returns-clause-pickup c =
    let model = c.args.self.now.model in
    let is : pair_at model c.args.p ≡ c.get.result.now = sym (ap (λ k. pair_at k.model c.args.p) c.self.view_is)
    ∙ c.get.ensures.value (record { pickup = 0; delivery = 0 }) in
    subst (λ (pair : Pair). pair.pickup < model.nodes) is
    (visit_below model (pair_at model c.args.p).pickup
    (c.requires.well_formed.each_pair c.args.p (record { pickup = 0; delivery = 0 }) c.requires.pair).pickup_is_visit)

pub returns-clause-delivery : goal.returns-clause-delivery
returns-clause-delivery c =
    let model = c.args.self.now.model in
    let is : pair_at model c.args.p ≡ c.get.result.now = sym (ap (λ k. pair_at k.model c.args.p) c.self.view_is)
    ∙ c.get.ensures.value (record { pickup = 0; delivery = 0 }) in
    subst (λ (pair : Pair). pair.delivery < model.nodes) is
    (visit_below model (pair_at model c.args.p).delivery
    (c.requires.well_formed.each_pair c.args.p (record { pickup = 0; delivery = 0 }) c.requires.pair).delivery_is_visit)
