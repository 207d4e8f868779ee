use Rattle.std.proofs.Common.{◌≤◌, ℕ, List, length, ap, arith}
use Rattle.std.proofs.lemmas.List.{take_all}
use Rattle.vr_balance.proofs.BalanceLemmas.{over_new, over_old, over-changed}
use Rattle.vr_balance.proofs.balance.Balance.write.Goals as goal

pub returns : goal.returns
returns c = record {
  within = c.loop-k.invariant.within;
  balanced = λ f.
      let lists : List (List ℕ) = c.args.routes.now.lists in
      let parts = c.args.change.now in
      let end : length parts ≤ c.loop-k.k = omega (arith, c.loop-k-test.false, c.parts-k-end.ensures.value) in
      let all = take_all c.loop-k.k parts end in
      let new = ap (over_new f lists) all in
      let old = ap (over_old f lists) all in
      let whole = over-changed f lists parts c.requires.made.makes.parts_are in
      let so_far = c.loop-k.invariant.balanced f in
      omega (arith, new, old, whole, so_far);
}
