use Rattle.std.proofs.Common.{◌∙◌, ◌+◌, ◌<◌, ◌≤◌, ℕ, List, length, length-append, ap, sym, subst, arith}
use Rattle.std.specs.Prelude.{All}
use Rattle.vr_model.specs.declared.records.Model.{Model}
use Rattle.vr_model.specs.routes.Routes.{route}
use Rattle.vr_earliest.specs.Kept.{KeptWays}
use Rattle.vr_earliest.specs.Kept.{HasWays}
use Rattle.vr_parts.proofs.RowLemmas.{each-push}
use Rattle.vr_parts.proofs.PartLemmas.{small}
use Rattle.vr_earliest.proofs.WayLemmas.{by-guide}
use Rattle.vr_earliest.proofs.kept.KeptLists.of.Goals as goal

pub of-guide-requires-clause-vehicle : goal.of-guide-requires-clause-vehicle
of-guide-requires-clause-vehicle c =
    let many = (small c.args.closed.model.now c.args.closed.well_formed c.args.routes.now.lists c.requires.valid).many in
    omega (arith, many, c.how_many-many.ensures.no_more, c.loop-v-test.true)

pub write_ways-requires : goal.write_ways-requires
write_ways-requires c =
    let s = small c.args.closed.model.now c.args.closed.well_formed c.args.routes.now.lists c.requires.valid in
    let nodes = subst (All (λ node. node < c.args.closed.model.now.nodes)) (sym c.list.ensures.value) (s.below c.loop-v.v) in
    let few = subst (λ l. length l ≤ 1000) (sym c.list.ensures.value) (s.few c.loop-v.v) in
    (omega arith, (few, subst (λ (m : Model). All (λ node. node < m.nodes) c.list.result.now) (sym c.of-guide.ensures.model) nodes))

pub loop-v-preserved : goal.loop-v-preserved
loop-v-preserved c =
    let i = c.loop-v.invariant in
    let m = c.args.closed.model.now in
    let lists : List (List ℕ) = c.args.routes.now.lists in
    let P = λ (v : ℕ) (kept : KeptWays). HasWays m c.args.d v (route lists v) kept in
    let new = c.write_ways.new.kept in
    let e = c.of-guide.ensures in
    let is = subst (λ l. HasWays m c.args.d c.loop-v.v l new) c.list.ensures.value
    (by-guide c.of-guide.result e.model e.dimension e.vehicle (λ model d v. HasWays model d v c.list.result.now new) c.write_ways.ensures) in
    rw c.in_ok-push.ensures.items (record {
      many = length-append c.loop-v.lists.items _ ∙ ap (λ n. n + 1) i.many;
      each = λ v other low. each-push P c.loop-v.lists.items new i.each (subst (λ n. P n new) (sym i.many) is) v other low;
    })
