use Rattle.std.proofs.Common.{[], ◌∷◌, length, length-append, ap, subst, arith}
use Rattle.vr_loads.specs.Kept.{IsCarried}
use Rattle.vr_loads.proofs.KeptLemmas.{carried-more}
use Rattle.vr_loads.proofs.loads.Loads.open.Goals as goal

pub loop-v-preserved : goal.loop-v-preserved
loop-v-preserved c = record {
  many = (let n = ap length c.in_ok-push.ensures.items in
      let l = length-append c.loop-v.vehicles.items (c.write.new.self ∷ []) in
      omega (arith, n, l, c.loop-v.invariant.many));
  each = carried-more c.args.model.now c.args.d c.args.routes.now.lists c.loop-v.vehicles.items
      c.push.new.self.items c.loop-v.v c.write.new.self c.loop-v.invariant.many c.loop-v.invariant.each
      (subst (λ l. IsCarried c.args.model.now c.args.d c.loop-v.v l c.write.new.self) c.list.ensures.value c.write.ensures) c.in_ok-push.ensures.items;
}
