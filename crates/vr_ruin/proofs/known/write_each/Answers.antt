use Rattle.std.proofs.Common.{◌≡◌, ◌∙◌, ◌<◌, ℕ, length, arith, subst, sym}
use Rattle.std.specs.Prelude.{false}
use Rattle.std.proofs.lemmas.List.{get_or-set_other, length-set}
use Rattle.vr_loads.specs.Loads.{is_load}
use Rattle.vr_reach.specs.KnownRows.{AreRowsIfUsed}
use Rattle.vr_reach.specs.Rows.{BothWays}
use Rattle.vr_rules.proofs.FrontLemmas.{moved_more}
use Rattle.vr_ruin.proofs.known.write_each.Goals as goal

pub write_in-requires-clause-rows : goal.write_in-requires-clause-rows
write_in-requires-clause-rows c = λ no_load.
    let model = c.args.lookups.now.closed.model.now in
    let d : ℕ = c.loop-d.d in
    let many = c.requires.loads.many in
    let rows = c.requires.many in
    let m = c.loop-d.invariant in
    let here = c.index-rows-d.result in
    let within : d < length c.loop-d.rows = omega (arith, m.long, c.loop-d-test.true, many, rows) in
    let first : d < length c.args.rows.now = omega (arith, m.long, within) in
    subst (AreRowsIfUsed model d c.args.v c.args.lists.now.before.now) (sym (m.left d here (omega arith) within))
    (c.requires.rows d here first (sym (c.requires.loads.each d _ c.loop-d-test.true) ∙ no_load))

pub loop-d-preserved : goal.loop-d-preserved
loop-d-preserved c =
    let model = c.args.lookups.now.closed.model.now in
    let d : ℕ = c.loop-d.d in
    let m = c.loop-d.invariant in
    let many = c.requires.loads.many in
    let rows = c.requires.many in
    let within : d < length c.loop-d.rows = omega (arith, m.long, c.loop-d-test.true, many, rows) in
    let new = c.write_in.new.rows in
    let long = length-set c.loop-d.rows d new in
    let Done = λ (d : ℕ) (rows : BothWays). is_load model d ≡ false → AreRowsIfUsed model d c.args.v c.args.lists.now.list.now rows in
    record {
      long = long ∙ m.long;
      left = λ k other after low. get_or-set_other c.loop-d.rows d k new other (λ same. absurd (omega (arith, after, same)))
          ∙ m.left k other (omega (arith, after)) (omega (arith, long, low));
      done = λ k other low lt. moved_more Done c.loop-d.rows d new within m.done
          (λ no_load. c.in_ok-write_in.ensures (c.requires.loads.each d _ c.loop-d-test.true ∙ no_load)) k other low lt;
    }
