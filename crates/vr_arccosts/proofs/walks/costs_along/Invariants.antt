use Rattle.std.proofs.Common.{◌≡◌, take}
use Rattle.vr_model.specs.tables.Tables.{arc_cost}
use Rattle.vr_arccosts.specs.Chains.{chain_sum, turned}
use Rattle.vr_arccosts.proofs.walks.costs_along.Given as goal

abbrev pub invariant-loop-k : goal.invariant-loop-k
invariant-loop-k l = l.cost ≡ chain_sum (turned l.reversed (arc_cost l.costs.model.now l.costs.vehicle)) (take l.k l.chain)
