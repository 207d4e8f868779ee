use Rattle.std.proofs.Common.{◌≡◌, length}
use Rattle.vr_model.specs.tables.Numbers.{from_to}
use Rattle.vr_read.specs.Rules.{for_all, cost_rule, costs_rule}
use Rattle.vr_read.proofs.model_rules.keep_costs.Given as goal

abbrev pub invariant-loop-v : goal.invariant-loop-v
invariant-loop-v l = for_all (from_to l.v (length l.model.vehicles)) (cost_rule l.path l.model) ≡ costs_rule l.path l.model
