use Rattle.std.proofs.Common.{◌∙◌, [], ap, ap₂, sym, arith}
use Rattle.std.specs.Prelude.{fold}
use Rattle.std.proofs.lemmas.List.{drop_all}
use Rattle.vr_model.specs.tables.Tables.{visits}
use Rattle.vr_strings.specs.Strings.{cut_at_visit, ring, ruined, step_size}
use Rattle.vr_ruin.specs.Cuttings.{ruined_of}
use Rattle.vr_ruin.proofs.cutting.cut_routes.Goals as goal

pub returns-clause-value : goal.returns-clause-value
unfolding ruined
returns-clause-value c =
    let t = c.args.trial.now in
    let size = c.draw_step_size-size.result in
    let words = c.draw_step_size-size.new.words in
    let f = cut_at_visit t.model size.longest size.count in
    let drawn = c.draw_step_size-size.ensures.value
    ∙ ap₂ (λ vs ls. step_size vs c.args.ruin ls c.args.words.now) (c.visits.ensures.value ∙ ap visits c.requires.rings) c.routes.ensures.lists in
    let around = c.ring-around.ensures ∙ c.in_ok-make.ensures.made ∙ ap (λ m. ring m size.centre) c.requires.rings in
    sym (ap (fold f (ruined_of c.loop-visit.trial.lists c.loop-visit.cut.items c.loop-visit.words))
    (drop_all c.loop-visit.visit-index c.ring-around.result.now (omega (arith, c.loop-visit-test.false))))
    ∙ c.loop-visit.invariant.left
    ∙ ap₂ (λ cut vs. fold f (ruined_of t.lists cut words) vs) c.clear.ensures.items around
    ∙ ap (λ d. fold (cut_at_visit t.model d.0.longest d.0.count) (ruined_of t.lists [] d.1) (ring t.model d.0.centre)) drawn
