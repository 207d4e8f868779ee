use Rattle.std.proofs.Common.{ℕ, List, w64, to_z, of_z, ap, sym, subst, arith}
use Rattle.std.proofs.lemmas.Int.{ints}
use Rattle.std.specs.Prelude.{◌+ℤ◌, ◌≤ℤ◌}
use Rattle.vr_model.specs.routes.Routes.{route}
use Rattle.vr_model.specs.tables.Tables.{pair_at}
use Rattle.vr_model.specs.declared.records.Model.{Model}
use Rattle.vr_routes.specs.Pairs.{without_two}
use Rattle.vr_parts.proofs.PartLemmas.{once-valid, small}
use Rattle.vr_arccosts.specs.Runs.{IsRest}
use Rattle.vr_arccosts.proofs.PutLemmas.{put-told}
use Rattle.vr_arccosts.proofs.RestLemmas.{back-no-less}
use Rattle.vr_arccosts.proofs.puts.Served.first_put_back.Goals as goal

pub invariant_of-rest : goal.invariant_of-rest
invariant_of-rest c =
    let model : Model = c.args.self.now.lists.kept.now.model in
    let lists : List (List ℕ) = c.args.self.now.lists.routes.now.lists in
    let at = c.args.self.now.at in
    let v = at.vehicle in
    let s = small model c.args.self.now.lists.stands.well_formed lists c.args.self.now.lists.stands.valid in
    let is : IsRest model (route lists v) at.pickup at.delivery = record {
      nodes = s.below v;
      few = s.few v;
      order = c.args.self.now.in_turn;
      place = c.args.self.now.places.delivery_stands.place;
    } in
    let costs = c.costs_of.ensures in
    record {
      sound = subst (λ (m : Model). IsRest m c.list.result.now at.pickup at.delivery) (sym costs.model)
          (subst (λ l. IsRest model l at.pickup at.delivery) (sym c.list.ensures.value) is);
    }

pub returns-clause-no_less : goal.returns-clause-no_less
returns-clause-no_less c t low high =
    let model : Model = c.args.self.now.lists.kept.now.model in
    let lists : List (List ℕ) = c.args.self.now.lists.routes.now.lists in
    let at = c.args.self.now.at in
    let v = at.vehicle in
    let left = c.without_pair-left.ensures in
    let read = to_z w64 (of_z w64 c.without_pair-left.result) in
    let costs = c.costs_of.ensures in
    let put = put-told model v (without_two (route lists v) at.pickup at.delivery) c.args.s t (pair_at model c.args.self.now.p)
    c.costs_of.result.model.now c.costs_of.result.vehicle (without_two c.list.result.now at.pickup at.delivery) c.pair-pair.result
    costs.model costs.vehicle (ap (λ (l : List ℕ). without_two l at.pickup at.delivery) c.list.ensures.value) c.pair-pair.ensures.value in
    back-no-less model lists c.args.self.now.p c.args.s t v at.pickup at.delivery c.args.asked.bound read
    (once-valid model lists c.args.self.now.lists.stands.valid) c.args.self.now.places c.args.self.now.in_turn
    (omega (arith, ints, left.value, left.range.low, left.range.high))
    (subst (λ d. c.args.asked.bound ≤ℤ (read +ℤ d)) put (c.first_in_rest.ensures.no_less t low high))
