use Rattle.std.proofs.Common.{◌∙◌, ap, sym}
use Rattle.std.specs.Prelude.{◌/◌}
use Rattle.std.specs.Option.{option_map}
use Rattle.std.proofs.lemmas.Result.{on_ok_weaker}
use Rattle.vr_rules.specs.Placing.{item_nodes}
use Rattle.vr_ruin.specs.Offers.{with_offer}
use Rattle.vr_ruin.specs.Ranks.{insertion_at}
use Rattle.vr_ruin.proofs.TurnLemmas.{chosen_item, put_back_is}
use Rattle.vr_ruin.proofs.turning.put_back.Goals as goal

pub take_if_paid-requires-clause-item : goal.take_if_paid-requires-clause-item
take_if_paid-requires-clause-item c =
    let t = c.args.trial.now in
    chosen_item t.model c.args.wide t.lists (item_nodes c.args.candidate.item)
    (c.zeros-r.result / 7) c.in_ok-best.best c.know.ensures.well_formed c.in_ok-best.ensures.value

pub returns-clause-value : goal.returns-clause-value
returns-clause-value c =
    let t = c.args.trial.now in
    let nodes = item_nodes c.args.candidate.item in
    on_ok_weaker _
    (λ lists. put_back_is t.model c.args.wide t.lists c.take_if_paid.new.trial.lists nodes c.args.words.now
    c.zeros-r.new.self c.zeros-r.result (sym c.in_ok-has_room.ensures ∙ c.if-not-branch.false) c.zeros-r.ensures.value
    (lists ∙ ap (λ t. with_offer t.model t.lists (option_map insertion_at c.in_ok-best.best)) c.in_ok-best.ensures.trial
    ∙ ap (with_offer t.model t.lists) c.in_ok-best.ensures.value)) c.take_if_paid.ensures.lists
