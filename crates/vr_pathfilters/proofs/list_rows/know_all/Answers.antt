use Rattle.std.proofs.Common.{[], ◌∷◌, length, length-append, ap, subst, sym, ◌∙◌, arith}
use Rattle.vr_reach.specs.KnownRows.{AreRowsIfUsed}
use Rattle.vr_reach.specs.Lists.{IsTour}
use Rattle.vr_pathfilters.proofs.Knowing.{known_more}
use Rattle.vr_pathfilters.proofs.PartTours.{tour_of}
use Rattle.vr_pathfilters.proofs.list_rows.know_all.Goals as goal

pub write_list-requires-clause-tour : goal.write_list-requires-clause-tour
write_list-requires-clause-tour g c =
    subst (IsTour c.args.at.now.closed.model.now) (sym c.list.ensures.value)
    (tour_of c.args.at.now.closed.model.now c.args.at.now.routes.now c.requires.at.tours c.loop-v.v (omega arith))

pub loop-v-preserved : goal.loop-v-preserved
loop-v-preserved g c = record {
  long =
      let n = ap length c.in_ok-push.ensures.items ∙ length-append c.loop-v.known.items (c.write_list.new.rows ∷ []) in
      omega (arith, n, c.loop-v.invariant.long);
  each = known_more c.args.at.now.closed.model.now c.args.at.now.d c.args.at.now.routes.now.lists c.loop-v.known.items
      c.push.new.self.items c.loop-v.v c.write_list.new.rows c.loop-v.invariant.each c.loop-v.invariant.long
      (subst (λ l. AreRowsIfUsed c.args.at.now.closed.model.now c.args.at.now.d c.loop-v.v l c.write_list.new.rows)
      c.list.ensures.value c.in_ok-write_list.ensures.rows) c.in_ok-push.ensures.items;
}
