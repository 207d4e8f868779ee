use Rattle.std.proofs.Common.{◌≡◌, ◌∙◌, arith, to_z, of_z, w64}
use Rattle.std.proofs.lemmas.Int.{ints}
use Rattle.vr_first_insert.specs.declared.choice.Placing.TheVariants.{Two}
use Rattle.vr_first_insert.proofs.ReadyLemmas.{few-held}
use Rattle.vr_first_insert.proofs.one_list.pair_at.Goals as goal

pub overflow_cast-result : goal.overflow_cast-result
overflow_cast-result c = omega (arith, few-held c.args.pair.now.list c.args.pair.now.may_hold)

pub overflow_cast-result-2 : goal.overflow_cast-result-2
overflow_cast-result-2 c = omega (arith, few-held c.args.pair.now.list c.args.pair.now.may_hold)

pub returns : goal.returns
returns c =
    let fits : to_z w64 (of_z w64 c.pair_increase.result) ≡ c.pair_increase.result =
    omega (arith, ints, c.pair_increase.ensures.low, c.pair_increase.ensures.high) in
    let increase = fits ∙ c.pair_increase.ensures.value in
    λ i. record {
      placing = Two c.args.pair.now.pickup c.args.pair.now.delivery c.args.s c.args.t;
      class = c.args.pair.now.class;
      vehicle = c.args.pair.now.list.vehicle;
      increase = increase i;
    }
