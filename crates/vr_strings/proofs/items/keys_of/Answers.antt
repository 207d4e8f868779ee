use Rattle.std.proofs.Common.{◌∙◌, ◌+◌, List, sym, subst}
use Rattle.vr_strings.specs.declared.items.ItemKey.{ItemKey}
use Rattle.vr_strings.proofs.KeysSoFar.{AreKeysSoFar, keys_put, keys_left}
use Rattle.vr_strings.proofs.items.keys_of.Goals.{in-Some+in_ok-push-in-Some, in-None}
use Rattle.vr_strings.proofs.items.keys_of.Goals as goal

pub loop-node-preserved : goal.loop-node-preserved
loop-node-preserved c =
    let model = c.args.nodes.now in
    let Next : List ItemKey → Type 0 = λ keys. AreKeysSoFar model (c.loop-node.node + 1) keys in
    elim c.match-visit_key.branch [
      | in-Some+in_ok-push-in-Some w ↦
          subst Next (sym (w.keys-is ∙ w.in_ok-push-in-Some.ensures.ok))
          (keys_put model c.loop-node.node c.loop-node.keys w.in-Some.key c.loop-node.invariant w.in-Some.ensures)
      | in-None w ↦
          subst Next (sym w.keys-is) (keys_left model c.loop-node.node c.loop-node.keys c.loop-node.invariant w.in-None.ensures)
    ]
