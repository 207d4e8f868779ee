use Rattle.std.proofs.Common.{◌∙◌, ap, sym, subst}
use Rattle.std.specs.Prelude.{IfSome}
use Rattle.std.specs.Option.{option_map}
use Rattle.std.proofs.lemmas.Result.{IfOk-weaker}
use Rattle.vr_ruin.specs.Placings.{insertion_of}
use Rattle.vr_ruin.specs.Timeless.{AddsToArcs}
use Rattle.vr_ruin.proofs.trial.Trial.offer.Goals as goal

pub returns-clause-offer : goal.returns-clause-offer
returns-clause-offer c =
    IfOk-weaker c.offer_within.result _ _ (λ offer found. ap (option_map insertion_of) found.kept ∙ found.best_is) c.offer_within.ensures.offer

pub returns-clause-adds : goal.returns-clause-adds
returns-clause-adds c =
    let t = c.args.self.now in
    IfOk-weaker c.offer_within.result _ _
    (λ offer found. subst (λ o. IfSome o (AddsToArcs t.model t.lists)) (sym found.kept) found.adds) c.offer_within.ensures.offer
