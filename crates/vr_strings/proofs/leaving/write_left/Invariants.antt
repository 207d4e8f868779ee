use Rattle.std.proofs.Common.{◌≡◌, ◌≤◌, take, length, not}
use Rattle.std.specs.Prelude.{filter}
use Rattle.vr_model.specs.routes.Routes.{route}
use Rattle.vr_strings.specs.Strings.{goes_out, gone_of}
use Rattle.vr_strings.proofs.leaving.write_left.Given as goal

-- what is left of the visits so far
abbrev pub invariant-loop-node : goal.invariant-loop-node
invariant-loop-node l = record {
  left_is : l.left ≡ filter (λ node. not (goes_out l.nodes (gone_of (route l.routes.lists l.v) l.string) node)) (take l.node-index (route l.routes.lists l.v));
  few : length l.left ≤ l.node-index;
}
