use Rattle.vr_pathfilters.proofs.AfterChanges.{tours_after}
use Rattle.vr_pathfilters.proofs.groups.GroupFilterPathFilter.commit.Goals as goal

pub returns-clause-stands : goal.returns-clause-stands
returns-clause-stands c = record {
  well_formed = c.requires.stands.well_formed;
  numbers_are = c.requires.stands.numbers_are;
  tours_are = tours_after c.args.self.now.model.now c.args._routes.now c.requires.stands.tours_are c.args._change.now c.requires.made;
  rule = c.requires.ready.rule;
}
