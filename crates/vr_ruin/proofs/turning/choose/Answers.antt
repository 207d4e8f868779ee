use Rattle.std.proofs.Common.{◌∙◌, ◌-◌, ap, length}
use Rattle.std.specs.Prelude.{min, slice_get}
use Rattle.std.proofs.lemmas.Result.{IfOk-weaker}
use Rattle.vr_rules.specs.Placing.{item_nodes}
use Rattle.vr_ruin.proofs.TurnLemmas.{chosen_offer, first_chosen}
use Rattle.vr_ruin.proofs.turning.choose.Goals as goal

pub returns-clause-value : goal.returns-clause-value
returns-clause-value c =
    let t = c.args.trial.now in
    chosen_offer t.model c.args.wide t.lists (item_nodes c.args.item) c.args.r c.chosen.result c.rank_all.new.ranked.items c.in_ok-rank_all.ensures.order
    (c.chosen.ensures ∙ ap (λ xs. slice_get xs (min c.args.r (length xs - 1))) c.deref.ensures.value)

pub returns-then-is_timeless-clause-value : goal.returns-then-is_timeless-clause-value
returns-then-is_timeless-clause-value c =
    let t = c.args.trial.now in
    IfOk-weaker c.cheapest.result _ _
    (λ best first. first_chosen t.model c.args.wide t.lists (item_nodes c.args.item) c.args.r best first c.if-r-eq0.true) c.cheapest.ensures.first
