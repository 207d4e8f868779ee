use Rattle.std.proofs.Common.{◌≡◌, ◌∙◌, length, sym, ap, subst, arith, w64, to_z, of_z}
use Rattle.std.proofs.lemmas.Int.{ints}
use Rattle.vr_model.specs.routes.Costs.{cost}
use Rattle.vr_model.proofs.routes.CostFits.{costs_are_bounded}
use Rattle.vr_model.proofs.routes.Lists.{are-lists, are_lists-count}
use Rattle.vr_plain.specs.Committed.{AreCommitted}
use Rattle.vr_plain.proofs.judge.PlainJudge.open.Goals as goal

pub returns-clause-holds : goal.returns-clause-holds
returns-clause-holds c =
    let model = c.args.model.now in
    let lists = c.args.routes.now.lists in
    let bounds = costs_are_bounded model c.requires.well_formed lists c.requires.valid in
    let value : c.in_ok-total.total ≡ cost model lists = c.in_ok-total.ensures.value ∙ ap (λ m. cost m lists) c.in_ok-rules.ensures in
    let same : to_z w64 (of_z w64 c.in_ok-total.total) ≡ cost model lists = omega (arith, ints, value, bounds.least, bounds.greatest) in
    let kept : AreCommitted model c.args.routes.now c.in_ok-scratch.scratch (to_z w64 (of_z w64 c.in_ok-total.total)) = record {
      of_model = c.requires.of_model;
      scratch_of_model = ap (λ r. r.visits) c.in_ok-scratch.ensures ∙ c.requires.of_model;
      scratch_for_all = ap (λ r. length r.lists) c.in_ok-scratch.ensures ∙ are_lists-count model lists (are-lists model lists c.requires.valid);
      costs = same;
      least = omega (arith, ints, same, bounds.least);
    } in
    record {
      committed = subst (λ m. AreCommitted m c.args.routes.now c.in_ok-scratch.scratch (to_z w64 (of_z w64 c.in_ok-total.total)))
          (sym (c.in_ok-total.ensures.model ∙ c.in_ok-rules.ensures)) kept;
      of_model = c.requires.of_model;
      valid = c.requires.valid;
    }
