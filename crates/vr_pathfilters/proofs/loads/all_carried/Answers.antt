use Rattle.std.proofs.Common.{sym, ◌∙◌, arith}
use Rattle.vr_reach.specs.Lists.{is_feasible_list}
use Rattle.vr_pathfilters.proofs.PartTours.{holds_after, holds_more, fails_after}
use Rattle.vr_pathfilters.proofs.loads.all_carried.Goals as goal

pub returns-then-not-part_carried : goal.returns-then-not-part_carried
returns-then-not-part_carried c =
    sym (fails_after (is_feasible_list c.args.model.now c.args.d) c.args.routes.now.lists c.args.change.now
    c.requires.made.makes.parts_are c.loop-k.k (omega arith) (sym c.part_carried.ensures ∙ c.if-not-part_carried.true))

pub loop-k-preserved : goal.loop-k-preserved
loop-k-preserved c =
    holds_more (is_feasible_list c.args.model.now c.args.d) c.args.routes.now.lists c.args.change.now
    c.loop-k.k c.loop-k.invariant (sym c.part_carried.ensures ∙ c.if-not-part_carried.false)

pub returns : goal.returns
returns c =
    sym (holds_after (is_feasible_list c.args.model.now c.args.d) c.args.routes.now.lists c.args.change.now
    c.requires.made.makes.parts_are c.requires.rule (λ j j_low. c.loop-k.invariant j (omega (arith, j_low))))
