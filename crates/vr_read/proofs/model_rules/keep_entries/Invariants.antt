use Rattle.std.proofs.Common.{◌≡◌, length}
use Rattle.vr_model.specs.tables.Numbers.{from_to}
use Rattle.vr_read.specs.Rules.{for_all, entries_rule_at, entries_rule}
use Rattle.vr_read.proofs.model_rules.keep_entries.Given as goal

abbrev pub invariant-loop-d : goal.invariant-loop-d
invariant-loop-d l = for_all (from_to l.d (length l.model.dimensions)) (entries_rule_at l.path l.model) ≡ entries_rule l.path l.model
