use Rattle.std.proofs.Common.{◌≡◌, length, sym, subst, ◌∙◌}
use Rattle.vr_model.specs.tables.WellFormed.{WherePresent}
use Rattle.vr_loads.specs.Kept.{AreCarried}
use Rattle.vr_pathfilters.specs.Known.{AreKnown, KnowsLoads, with_part}
use Rattle.vr_pathfilters.proofs.AfterChanges.{tours_after}
use Rattle.vr_pathfilters.proofs.Knowing.{both_parts, as_many_with_part}
use Rattle.vr_pathfilters.proofs.dimensions.DimensionFilterPathFilter.commit.Goals as goal

pub put_list-requires-in-Some-clause-kept : goal.put_list-requires-in-Some-clause-kept
put_list-requires-in-Some-clause-kept c =
    let s = c.requires.stands in
    let lists = c.args.routes.now.lists in
    let kept = subst (WherePresent (KnowsLoads c.args.self.now.lookups.closed.model.now c.args.self.now.d lists)) c.in-Some.is s.loads_are in
    let new = c.put_list.ensures.carried lists kept.carried_are in
    new.many ∙ (as_many_with_part lists c.args.change.now 0 lists ∙ s.tours_are.list_of_each)

pub returns-in-Some-clause-stands : goal.returns-in-Some-clause-stands
returns-in-Some-clause-stands c =
    let m = c.args.self.now.lookups.closed.model.now in
    let d = c.args.self.now.d in
    let s = c.requires.stands in
    let lists = c.args.routes.now.lists in
    let parts = c.args.change.now in
    let kept = subst (WherePresent (KnowsLoads m d lists)) c.in-Some.is s.loads_are in
    record {
      well_formed = s.well_formed;
      dimension = s.dimension;
      tours_are = tours_after m c.args.routes.now s.tours_are parts c.requires.made;
      loads_known = sym kept.load;
      loads_are = record {
        load = kept.load;
        carried_are = subst (λ l. AreCarried m d l c.put_list-in-Some.new.loads) (both_parts lists parts c.put_list.ensures.some c.put_list.ensures.few)
            (c.put_list-in-Some.ensures.carried (with_part lists parts 0 lists) (c.put_list.ensures.carried lists kept.carried_are));
      };
      rows_are = λ none. absurd (cc);
      rule = c.requires.ready.rule;
    }

pub returns-in-None-clause-stands : goal.returns-in-None-clause-stands
returns-in-None-clause-stands c =
    let m = c.args.self.now.lookups.closed.model.now in
    let d = c.args.self.now.d in
    let s = c.requires.stands in
    let lists = c.args.routes.now.lists in
    let parts = c.args.change.now in
    let rows = s.rows_are c.in-None.is in
    let ready = c.requires.ready.rows_are c.in-None.is in
    let n : length lists ≡ length c.args.self.now.known.items = s.tours_are.list_of_each ∙ sym rows.known_of_each in
    record {
      well_formed = s.well_formed;
      dimension = s.dimension;
      tours_are = tours_after m c.args.routes.now s.tours_are parts c.requires.made;
      loads_known = s.loads_known;
      loads_are = subst (WherePresent (KnowsLoads m d _)) (sym c.in-None.is) tt;
      rows_are = λ none. record {
        known_of_each = c.put_part-in-None.ensures.long ∙ (c.put_part.ensures.long ∙ rows.known_of_each);
        known_are = subst (λ l. AreKnown m d l c.put_part-in-None.new.known.items) (both_parts lists parts c.put_part.ensures.some c.put_part.ensures.few)
            (c.put_part-in-None.ensures.known m d lists (with_part lists parts 0 lists)
            (as_many_with_part lists parts 0 lists ∙ (n ∙ sym c.put_part.ensures.long))
            (c.put_part.ensures.known m d lists lists n rows.known_are ready.first_are) ready.second_are);
      };
      rule = c.requires.ready.rule;
    }
