use Rattle.std.proofs.Common.{◌≡◌, ◌≤◌, ◌+◌, map, drop}
use Rattle.vr_rules.specs.Placing.{item_nodes}
use Rattle.vr_ruin.specs.Lacking.{missing_items}
use Rattle.vr_ruin.proofs.LackCounts.{missing_of}
use Rattle.vr_ruin.proofs.lacking.missing_items.Given as goal

-- what is missing among the items so far, and among those that are left
abbrev pub invariant-loop-candidate : goal.invariant-loop-candidate
invariant-loop-candidate l = record {
  sum : l.missing + missing_of l.closed.model.now l.routes.lists (map (λ candidate. item_nodes candidate.item) (drop l.candidate-index l.candidates))
      ≡ missing_items l.closed.model.now l.routes.lists;
  few : l.missing ≤ l.candidate-index;
}
