use Rattle.std.proofs.Common.{◌≡◌, ◌∙◌, ◌<◌, ◌+◌, ◌-◌, ℕ, cond, ap, arith, length}
use Rattle.vr_model.specs.declared.records.Group.{Group}
use Rattle.vr_model.specs.routes.Routes.{holds}
use Rattle.vr_lists.specs.Nodes.{node_number}
use Rattle.vr_lists.proofs.NodeLemmas.{numbers_step}
use Rattle.vr_lists.proofs.nodes.write_groups.Goals as goal

pub loop-g-preserved : goal.loop-g-preserved
loop-g-preserved c =
    let groups = c.args.closed.model.now.groups in
    let m = c.loop-g.invariant in
    let k : ℕ = c.loop-g.g - 1 in
    let low : k < length groups = omega (arith, c.loop-g-test.true, m.within) in
    let more : k + 1 ≡ c.loop-g.g = omega (arith, c.loop-g-test.true) in
    let group = c.get.result.now in
    record {
      within = omega (arith, m.within);
      long = c.write_each.ensures.count ∙ m.long;
      each = λ node within. numbers_step (λ (group : Group). holds group.nodes node) groups k
          c.loop-g.g group (node_number c.loop-g.numbers node) (node_number c.write_each.new.values node)
          more low (c.get.ensures.value group) (m.each node within)
          (c.write_each.ensures.each node 0 (omega (arith, within, m.long))
          ∙ ap (λ nodes. cond (holds nodes node) k (node_number c.loop-g.numbers node)) c.as_slice.ensures);
    }
