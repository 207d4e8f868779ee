use Rattle.std.proofs.Common.{arith}
use Rattle.vr_reach.proofs.Splicing.{fewer_at_back}
use Rattle.vr_reach.proofs.stretches.shared_back.Goals as goal

pub nodes-init : goal.nodes-init
nodes-init c = record {
  within = omega (arith, c.min-back.ensures);
  shares = fewer_at_back c.args.old.now c.args.new.now c.args.known c.min-back.result c.requires.known (omega (arith, c.min-back.ensures));
}
