use Rattle.std.proofs.Common.{◌∙◌, ◌+◌, ◌<◌, ℕ, List, length, arith}
use Rattle.std.proofs.lemmas.List.{length-set}
use Rattle.vr_spans.specs.declared.runs.Run.{Run}
use Rattle.vr_rules.proofs.FrontLemmas.{left_behind, moved_more}
use Rattle.vr_reach.specs.Standing.{IsReachedAt}
use Rattle.vr_first_insert.proofs.probes.Probes.go_on.Goals as goal

pub loop-d-preserved : goal.loop-d-preserved
loop-d-preserved c =
    let model = c.args.lookups.now.closed.model.now in
    let m = c.loop-d.invariant in
    let here = c.loop-d.self.here.items in
    let new = c.go_on.new.here in
    let P = λ (d : ℕ) (levels : List (List Run)). IsReachedAt model d c.args.v c.args.list.now (c.args.k + 1) levels in
    let Left = λ (d : ℕ) (levels : List (List Run)). d < length model.dimensions → IsReachedAt model d c.args.v c.args.list.now c.args.k levels in
    record {
      long = length-set here c.loop-d.d new ∙ m.long;
      done = λ d other low lt. moved_more P here c.loop-d.d new
          (omega (arith, m.long, c.requires.here.enough, c.loop-d-test.true)) m.done c.in_ok-go_on.ensures d other low lt;
      left = λ d other low lt within. left_behind Left here c.loop-d.d new m.left d other low lt within;
    }
