use Rattle.std.proofs.Common.{◌∙◌, ◌+◌, suc, refl, ap₂, arith, length, map}
use Rattle.std.proofs.lemmas.Result.{IfOk-weaker}
use Rattle.vr_model.specs.tables.Numbers.{from_to}
use Rattle.vr_model.proofs.tables.Ranges.{walk_opens}
use Rattle.vr_ruin.specs.Placings.{best_of}
use Rattle.vr_ruin.specs.declared.placing.Placing.TheVariants.{Two}
use Rattle.vr_ruin.proofs.asking.Asker.best_delivery.Goals as goal

pub returns-clause-best : goal.returns-clause-best
returns-clause-best c =
    let model = c.args.self.now in
    let v = c.args.list.vehicle in
    let list = c.args.list.nodes.now in
    let n = suc (length list) in
    let s = c.args.s in
    let further = map (Two c.args.pickup c.args.delivery s) (from_to (s + 1) n) in
    IfOk-weaker c.best_further.result _ _ (λ better is. is
    ∙ ap₂ (λ m b. best_of m v list b further) c.in_ok-near.ensures.model c.in_ok-near.ensures.best
    ∙ walk_opens (λ ts. best_of model v list c.args.best (map (Two c.args.pickup c.args.delivery s) ts)) n s refl (omega (arith, c.requires.place)))
    c.best_further.ensures.best
