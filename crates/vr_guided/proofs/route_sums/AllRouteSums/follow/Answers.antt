use Rattle.std.proofs.Common.{◌∙◌, sym, subst}
use Rattle.vr_guided.specs.Counts.{counted}
use Rattle.vr_guided.proofs.ListLemmas.{list_of_each}
use Rattle.vr_known.proofs.TouchedLemmas.{SameBut, unnamed_kept}
use Rattle.vr_guided.proofs.RouteSumLemmas.{after_one, after_two, same_one}
use Rattle.vr_guided.proofs.route_sums.AllRouteSums.follow.Goals as goal

pub returns-then-touched : goal.returns-then-touched
returns-then-touched c lists are is =
    let m = c.args.weights.closed.model.now in
    let later = c.args.routes.now.lists in
    let touched = c.in-Some.touched in
    let same = subst (SameBut touched.first touched.second lists) (sym is) (unnamed_kept m lists c.args.mv touched (sym c.named.ensures ∙ c.in-Some.is)) in
    after_one m (counted c.args.weights.penalties.now) lists later c.args.self.now are (list_of_each m later c.requires.valid)
    touched.first c.write_of.new.self c.write_of.ensures (same_one touched.first touched.second lists later c.if-touched.true same)

pub returns : goal.returns
returns c lists are is =
    let m = c.args.weights.closed.model.now in
    let later = c.args.routes.now.lists in
    let touched = c.in-Some.touched in
    let same = subst (SameBut touched.first touched.second lists) (sym is) (unnamed_kept m lists c.args.mv touched (sym c.named.ensures ∙ c.in-Some.is)) in
    after_two m (counted c.args.weights.penalties.now) lists later c.args.self.now are (list_of_each m later c.requires.valid)
    touched.first touched.second c.write_of.new.self c.write_of-2.new.self c.write_of.ensures c.write_of-2.ensures same
