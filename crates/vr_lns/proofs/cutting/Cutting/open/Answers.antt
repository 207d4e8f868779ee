use Rattle.std.proofs.Common.{◌≡◌, ◌∙◌, ap, subst, sym}
use Rattle.vr_model.specs.routes.Routes.{are_lists}
use Rattle.vr_rules.proofs.PlacingLemmas.{AreBuilt-empty}
use Rattle.vr_lns.specs.Cutters.{Cutter, AreRoutesOf}
use Rattle.vr_lns.proofs.cutting.Cutting.open.Goals as goal

pub invariant_of-result : goal.invariant_of-result
invariant_of-result c =
    let model = c.args.lookups.now.closed.model.now in
    let same : c.in_ok-open.field-0.model ≡ model = ap (λ (cutter : Cutter). cutter.model) c.in_ok-open.ensures in
    subst (λ m. AreRoutesOf m c.in_ok-after.after) (sym same) (record {
      visits_are = c.in_ok-after.ensures.visits;
      lists_are = ap (are_lists model) c.in_ok-after.ensures.lists ∙ (AreBuilt-empty model).are_lists;
    })
