use Rattle.std.proofs.Common.{◌≡◌, take, true}
use Rattle.std.specs.List.{list_all}
use Rattle.vr_rules.specs.GroupRules.{passes_by}
use Rattle.vr_rules.proofs.groups.groups_pass.Given as goal

abbrev pub invariant-loop-k : goal.invariant-loop-k
invariant-loop-k l = list_all (passes_by l.rule l.marks) (take l.k l.closed.model.now.groups) ≡ true
