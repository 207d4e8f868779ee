use Rattle.std.proofs.Common.{◌∙◌, ℕ, ◌+◌, List, ap, subst, sym}
use Rattle.std.specs.Prelude.{IsTrue}
use Rattle.std.proofs.lemmas.List.{length-append}
use Rattle.vr_spans.specs.declared.runs.Run.{Run}
use Rattle.vr_model.specs.tables.Tables.{is_visit}
use Rattle.vr_steps.specs.declared.stops.StopName.TheVariants.{Visit}
use Rattle.vr_rules.specs.Fronts.{IsStopSet}
use Rattle.vr_reach.proofs.Tables.{each_push}
use Rattle.vr_rules.proofs.fronts.visit_sets.Goals as goal

pub loop-node-preserved : goal.loop-node-preserved
loop-node-preserved c =
    let model = c.args.of.now.closed.model.now in
    let m = c.loop-node.invariant in
    let P = λ (node : ℕ) (set : List Run). IsTrue (is_visit model node) → IsStopSet model c.args.of.now.d c.args.of.now.v (Visit node) set in
    rw c.in_ok-push.ensures.items (record {
      long = length-append c.loop-node.sets.items _ ∙ ap (λ n. n + 1) m.long;
      each = λ node other lt. each_push P c.loop-node.sets.items c.in_ok-visit_set.field-0 m.each
          (subst (λ n. P n c.in_ok-visit_set.field-0) (sym m.long) c.in_ok-visit_set.ensures) node other lt;
    })
