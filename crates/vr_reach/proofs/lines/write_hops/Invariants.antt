use Rattle.std.proofs.Common.{◌≡◌, take, All}
use Rattle.vr_steps.specs.Arcs.{IsSoundHop}
use Rattle.vr_steps.specs.Lines.{hops_along}
use Rattle.vr_reach.proofs.lines.write_hops.Given as goal

-- the arcs so far are the first of the line
abbrev pub invariant-loop-k : goal.invariant-loop-k
invariant-loop-k l = record {
  exact : l.hops ≡ take l.k (hops_along l.of.closed.model.now l.of.d l.of.v l.of.list.now);
  sound : All IsSoundHop l.hops;
}
