use Rattle.std.proofs.Common.{◌∙◌, ◌<◌, ℕ, length, arith}
use Rattle.std.proofs.lemmas.List.{length-set}
use Rattle.vr_model.specs.moves.Moves.{with_route}
use Rattle.vr_rules.proofs.FrontLemmas.{left_behind, moved_more}
use Rattle.vr_first_insert.specs.declared.list_rows.ListRows.{ListRows}
use Rattle.vr_first_insert.specs.KeptRows.{AreKeptRowsIn}
use Rattle.vr_first_insert.proofs.list_rows.rewrite.Goals as goal

pub rewrite-requires-clause-kept : goal.rewrite-requires-clause-kept
rewrite-requires-clause-kept c =
    let m = c.loop-d.invariant in
    m.left c.loop-d.d c.index-list_rows-d.result (omega arith) (omega (arith, m.long, c.loop-d-test.true))

pub loop-d-preserved : goal.loop-d-preserved
loop-d-preserved c =
    let model = c.args.new.now.lookups.now.closed.model.now in
    let lists = c.args.lists.now in
    let d : ℕ = c.loop-d.d in
    let m = c.loop-d.invariant in
    let within : d < length c.loop-d.list_rows = omega (arith, m.long, c.loop-d-test.true) in
    let list_rows = c.loop-d.list_rows in
    let new = c.rewrite.new.self in
    let Done = λ (d : ℕ) (kept : ListRows). AreKeptRowsIn model d (with_route lists c.args.new.now.vehicle c.args.new.now.nodes.now) kept in
    let Left = λ (d : ℕ) (kept : ListRows). AreKeptRowsIn model d lists kept in
    record {
      long = length-set list_rows d new ∙ m.long;
      done = λ k other low lt. moved_more Done list_rows d new within m.done c.in_ok-rewrite.ensures k other low lt;
      left = λ k other low lt. left_behind Left list_rows d new m.left k other low lt;
    }
