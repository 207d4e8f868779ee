use Rattle.std.proofs.Common.{◌∙◌, ◌<◌, length, sym, ap, subst, arith}
use Rattle.vr_costfilter.specs.Kept.{AreKept}
use Rattle.vr_costfilter.specs.declared.kept.KeptList.{KeptList}
use Rattle.vr_costfilter.proofs.KeptCumulLemmas.{kept-set}
use Rattle.vr_costfilter.proofs.kept.KeptCumuls.write.Goals as goal

pub returns-then-v-len-clause-kept : goal.returns-then-v-len-clause-kept
returns-then-v-len-clause-kept c lists h known =
    let m = c.args.tour.now.closed.model.now in
    let old = subst (AreKept m c.args.d lists) (sym c.self.view_is) h in
    let under : c.args.tour.now.v < length c.self.inside.lists.items = omega (arith, c.len.ensures, c.if-v-len.true) in
    let k = c.self.inside.lists.items in
    kept-set m c.args.d lists k c.args.tour.now.v c.args.tour.now.list.now c.write_list.new.kept old known under c.write_list.ensures.kept
    (c.write_list.ensures.room
    ∙ (ap (λ (x : KeptList). length x.ends.items) c.index_mut.ensures.value ∙ old.room c.args.tour.now.v c.index_mut.result.now under))
