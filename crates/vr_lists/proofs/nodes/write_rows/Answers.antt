use Rattle.std.proofs.Common.{◌≡◌, ◌∙◌, ◌<◌, ◌-◌, ℕ, subst, arith, length, get_or}
use Rattle.std.specs.Prelude.{◌==◌, slice_set, IsTrue}
use Rattle.std.proofs.lemmas.List.{length-set}
use Rattle.vr_model.specs.declared.records.Allowed.{Allowed}
use Rattle.vr_model.specs.tables.Tables.{is_visit}
use Rattle.vr_model.proofs.routes.Lists.{visit_below}
use Rattle.vr_lists.specs.Nodes.{node_number}
use Rattle.vr_lists.proofs.NodeLemmas.{numbers_step, set_number}
use Rattle.vr_lists.proofs.nodes.write_rows.Goals as goal

pub loop-k-preserved : goal.loop-k-preserved
loop-k-preserved c =
    let model = c.args.closed.model.now in
    let k : ℕ = c.loop-k.k - 1 in
    let low : k < length model.allowed = omega (arith, c.loop-k-test.true, c.loop-k.invariant.within) in
    let row = c.get.result.now in
    let is : get_or model.allowed k row ≡ row = c.get.ensures.value row in
    let visit : IsTrue (is_visit model row.node) = subst (λ (r : Allowed). IsTrue (is_visit model r.node))
    is (c.args.closed.well_formed.each_allowed k row low).node_is_visit in
    let here = visit_below model row.node visit in
    record {
      within = omega (arith, c.loop-k.invariant.within);
      long = length-set c.loop-k.numbers row.node k ∙ c.loop-k.invariant.long;
      each = λ node within. numbers_step (λ (row : Allowed). row.node == node) model.allowed k c.loop-k.k
          row (node_number c.loop-k.numbers node) (node_number (slice_set c.loop-k.numbers row.node k) node)
          (omega (arith, c.loop-k-test.true)) low is (c.loop-k.invariant.each node within)
          (set_number c.loop-k.numbers row.node k node (omega (arith, here, c.loop-k.invariant.long)));
    }
