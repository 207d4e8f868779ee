use Rattle.vr_json.proofs.Steps.{then}
use Rattle.vr_read.specs.Rules.{rules}
use Rattle.vr_read.proofs.model_rules.keep_rules.Goals as goal

pub returns : goal.returns
unfolding rules
returns c = then _ c.in_ok-keep_costs.ensures (then _ c.in_ok-keep_entries.ensures (then _ c.in_ok-keep_transits.ensures c.keep_savings.ensures))
