use Rattle.vr_rules.specs.Parts.{AreTimed}
use Rattle.vr_rules.proofs.parts.timed_of.Given as goal

abbrev pub invariant-loop-d : goal.invariant-loop-d
invariant-loop-d l = AreTimed l.of.lookups.now.closed.model.now l.of.routes.now.lists l.d l.timed
