use Rattle.std.proofs.Common.{◌≡◌, ◌∙◌, true, false, Some, None, ap, subst, sym}
use Rattle.std.specs.Prelude.{IfOk, OnOk}
use Rattle.vr_model.proofs.routes.Lists.{are-lists}
use Rattle.vr_rules.specs.Placing.{AreBuilt}
use Rattle.vr_rules.proofs.PenaltyLemmas.{valid-open}
use Rattle.vr_lns.specs.Cuts.{accepted_by, where_better}
use Rattle.vr_lns.specs.Cutters.{result_in, Cutter}
use Rattle.vr_lns.specs.Standing.{is_taken_over, lists_after}
use Rattle.vr_lns.proofs.CutLemmas.{accepted_is}
use Rattle.vr_lns.proofs.cutting.Cutting.try_cut.Given.{Over}
use Rattle.vr_lns.proofs.cutting.Cutting.try_cut.Goals.{After-take, In_ok-there}
use Rattle.vr_lns.proofs.cutting.Cutting.try_cut.Goals as goal

-- the cut has no result, so none is taken over ..
without : (g : Over) (c : In_ok-there g) → c.in_ok-there.there ≡ false → where_better c.self.inside.cutter.model c.args.routes.now.lists None
    ≡ accepted_by c.self.inside.cutter.model c.self.inside.cutter.most c.args.routes.now.lists c.args.at
without g c lacks = accepted_is c.self.inside.cutter.model c.self.inside.cutter.most c.args.routes.now.lists c.args.at
    None (ap (λ there. result_in there c.write_result.new.after.lists) (sym lacks) ∙ c.in_ok-there.ensures.lists)

-- .. or it has one, which is taken over where it is better
with_one : (g : Over) (c : After-take g) → c.in_ok-there.there ≡ true
    → where_better c.write_result.new.self.model c.args.routes.now.lists (Some c.write_result.new.after.lists)
    ≡ accepted_by c.args.self.now.model c.args.self.now.most c.args.routes.now.lists c.args.at
with_one g c has =
    let cutter = c.self.inside.cutter in
    let lists = c.args.routes.now.lists in
    let after = c.write_result.new.after.lists in
    ap (λ (k : Cutter). where_better k.model lists (Some after)) c.in_ok-there.ensures.cutter
    ∙ accepted_is cutter.model cutter.most lists c.args.at (Some after) (ap (λ there. result_in there after) (sym has) ∙ c.in_ok-there.ensures.lists)
    ∙ ap (λ (k : Cutter). accepted_by k.model k.most lists c.args.at) c.self.view_is

pub write_result-requires-clause-built : goal.write_result-requires-clause-built
write_result-requires-clause-built g c =
    let lists = c.args.routes.now.lists in
    subst (λ (cutter : Cutter). AreBuilt cutter.model lists) (sym c.self.view_is) (record {
      are_lists = are-lists c.args.self.now.model lists c.requires.holds.valid;
      are_open = valid-open c.args.self.now.model lists c.requires.holds.valid;
    })

pub returns-then-not-there-clause-taken : goal.returns-then-not-there-clause-taken
returns-then-not-there-clause-taken g c =
    subst (λ (k : Cutter). false ≡ is_taken_over (accepted_by k.model k.most c.args.routes.now.lists c.args.at)) c.self.view_is
    (ap is_taken_over (without g (goal.at.returns-then-not-there-clause-taken g c).In_ok-there c.if-not-there.true))

pub returns-then-not-there-clause-lists : goal.returns-then-not-there-clause-lists
returns-then-not-there-clause-lists g c =
    subst (λ (k : Cutter). c.args.routes.now.lists ≡ lists_after c.args.routes.now.lists (accepted_by k.model k.most c.args.routes.now.lists c.args.at))
    c.self.view_is (ap (lists_after c.args.routes.now.lists) (without g (goal.at.returns-then-not-there-clause-lists g c).In_ok-there c.if-not-there.true))

pub returns-clause-taken : goal.returns-clause-taken
returns-clause-taken g c =
    subst (λ r. IfOk c.take.result (λ taken. taken ≡ is_taken_over r))
    (with_one g (goal.at.returns-clause-taken g c).After-take c.if-not-there.false) c.take.ensures.taken

pub returns-clause-lists : goal.returns-clause-lists
returns-clause-lists g c =
    subst (λ r. OnOk c.take.result (c.take.new.routes.lists ≡ lists_after c.args.routes.now.lists r))
    (with_one g (goal.at.returns-clause-lists g c).After-take c.if-not-there.false) c.take.ensures.lists
