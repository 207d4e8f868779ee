use Rattle.std.proofs.Common.{ap, subst, sym}
use Rattle.vr_lists.specs.Pairs.{keeps_pairs}
use Rattle.vr_pathfilters.specs.Lists.{holds_of_each}
use Rattle.vr_pathfilters.specs.ListFilters.{StandsBy}
use Rattle.vr_pathfilters.specs.Pairs.{AreAllCounted, KnowsPairs, KnowsTours}
use Rattle.vr_pathfilters.proofs.PartTours.{kept_tours}
use Rattle.vr_pathfilters.proofs.pairs.PairFilter.over.Goals as goal

pub count_all-requires : goal.count_all-requires
count_all-requires c = record {
  tours = subst (λ m. KnowsTours m c.args.routes.now) (sym c.nodes.ensures)
      (record { well_formed = c.args.lookups.now.closed.well_formed; tours_are = kept_tours c.requires c.know_once.ensures c.know_entries.ensures });
}

pub returns-clause-holds : goal.returns-clause-holds
returns-clause-holds c = ap (λ m. holds_of_each (keeps_pairs m)) c.in_ok-share.ensures

pub returns-clause-stands : goal.returns-clause-stands
returns-clause-stands c =
    let listed = c.count_all.new.turns.listed in
    subst (λ m. StandsBy (keeps_pairs m) (KnowsPairs m listed) c.args.routes.now) (sym c.in_ok-share.ensures) (record {
      known = record {
        knows_tours =
            record { well_formed = c.args.lookups.now.closed.well_formed; tours_are = kept_tours c.requires c.know_once.ensures c.know_entries.ensures };
        counted = subst (λ m. AreAllCounted m c.args.routes.now.lists listed) c.nodes.ensures c.count_all.ensures;
      };
      rule_holds = c.requires.rule_holds;
    })
