use Rattle.std.proofs.Common.{◌≡◌, length}
use Rattle.vr_model.specs.tables.Numbers.{from_to}
use Rattle.vr_read.specs.Rules.{for_all, entry_rule, dimension_entries_rule}
use Rattle.vr_read.proofs.model_rules.keep_dimension_entries.Given as goal

abbrev pub invariant-loop-k : goal.invariant-loop-k
invariant-loop-k l = for_all (from_to l.k (length l.dimension.evaluators)) (entry_rule l.path l.model l.dimension)
    ≡ dimension_entries_rule l.path l.model l.dimension
