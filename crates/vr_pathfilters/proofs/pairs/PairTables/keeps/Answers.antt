use Rattle.std.proofs.Common.{◌≡◌, ◌∙◌, true, false, List, ℕ, rules, ap, sym, subst}
use Rattle.std.specs.Prelude.{IsTrue}
use Rattle.std.specs.List.{list_all}
use Rattle.vr_model.specs.deciding.Testing.{and_left, and_right}
use Rattle.vr_model.specs.routes.Routes.{route}
use Rattle.vr_model.specs.routes.Rules.{keeps_policy, serves_pair}
use Rattle.vr_model.specs.declared.records.Model.{Model}
use Rattle.vr_lists.specs.Pairs.{keeps_pairs}
use Rattle.vr_routes.specs.Pieces.{joined, part_at}
use Rattle.vr_pathfilters.proofs.PartEnds.{part_seen}
use Rattle.vr_pathfilters.proofs.PartTours.{rule_at, tour_of}
use Rattle.vr_pathfilters.specs.Counted.{AreCounted, asks_turns}
use Rattle.vr_pathfilters.specs.Replaced.{takes_turns_between}
use Rattle.vr_pathfilters.specs.Pairs.{asks_turns_of}
use Rattle.vr_pathfilters.proofs.TurnLemmas.{distinct_between, keeps_between, keeps_unasked}
use Rattle.vr_pathfilters.proofs.pairs.PairTables.keeps.Goals as goal

pub write_between-splice-requires-clause-tours : goal.write_between-splice-requires-clause-tours
write_between-splice-requires-clause-tours c = let knows = c.requires.knows.knows_tours in (c.args.node_tables.now, knows.well_formed, knows.tours_are)

pub mark-requires-clause-nodes : goal.mark-requires-clause-nodes
mark-requires-clause-nodes c =
    (part_seen (c.write_between-splice.ensures c.args.node_tables.now c.requires.knows.knows_tours.well_formed c.requires.knows.knows_tours.tours_are)
    c.as_slice.ensures.value).nodes

pub invariant_of-between : goal.invariant_of-between
invariant_of-between c =
    let part =
    part_seen (c.write_between-splice.ensures c.args.node_tables.now c.requires.knows.knows_tours.well_formed c.requires.knows.knows_tours.tours_are)
    c.as_slice-2.ensures.value in
    record {
      fits = record {
        vehicle = part.vehicle;
        once = c.requires.knows.knows_tours.tours_are.once;
        seams = part.seams;
        marked = search rules;
        few = part.long;
        few_between = part.few;
        distinct = part.tour.distinct;
      };
    }

pub serves_between-requires : goal.serves_between-requires
serves_between-requires c =
    let m : Model = c.args.node_tables.now in
    let lists : List (List ℕ) = c.args.routes.now.lists in
    let v = c.write_between-splice.result.vehicle in
    record {
      before = and_left (list_all (serves_pair (route lists v)) m.pairs) (keeps_policy m v (route lists v))
          (rule_at (keeps_pairs m) lists c.requires.before v
          (c.write_between-splice.ensures c.args.node_tables.now c.requires.knows.knows_tours.well_formed c.requires.knows.knows_tours.tours_are).vehicle);
    }

pub put_between-requires : goal.put_between-requires
put_between-requires c =
    let ends = c.write_between-splice.result in
    let part =
    part_seen (c.write_between-splice.ensures c.args.node_tables.now c.requires.knows.knows_tours.well_formed c.requires.knows.knows_tours.tours_are)
    c.as_slice-2.ensures.value in
    record {
      nodes = part.nodes;
      few = part.few;
      distinct = distinct_between (route c.args.routes.now.lists ends.vehicle) c.as_slice-2.result.now ends.front ends.behind part.tour.distinct;
    }

pub takes_turns-requires-clause-listed : goal.takes_turns-requires-clause-listed
takes_turns-requires-clause-listed c =
    let m : Model = c.args.node_tables.now in
    let v = c.write_between-splice.result.vehicle in
    let asks : IsTrue (asks_turns_of m v) = ap asks_turns (sym c.policy_of-policy.ensures) ∙ (sym c.are_asked.ensures ∙ c.if-not-are_asked.false) in
    subst (λ listed. AreCounted m (route c.args.routes.now.lists v) listed) (sym c.put_between.ensures.kept)
    (c.requires.knows.counted v
    (c.write_between-splice.ensures c.args.node_tables.now c.requires.knows.knows_tours.well_formed c.requires.knows.knows_tours.tours_are).vehicle asks)

pub returns-then-not-are_asked-clause-answer : goal.returns-then-not-are_asked-clause-answer
returns-then-not-are_asked-clause-answer c =
    let m : Model = c.args.node_tables.now in
    let kept = part_at c.args.change.now c.args.k in
    let new : List ℕ = joined c.args.routes.now.lists kept.pieces in
    let part =
    part_seen (c.write_between-splice.ensures c.args.node_tables.now c.requires.knows.knows_tours.well_formed c.requires.knows.knows_tours.tours_are)
    c.as_slice-2.ensures.value in
    let served : list_all (serves_pair new) m.pairs ≡ true = ap (λ l. list_all (serves_pair l) m.pairs) (sym part.whole)
    ∙ (sym c.serves_between.ensures ∙ c.if-not-serves_between.false) in
    let none : asks_turns_of m c.write_between-splice.result.vehicle ≡ false = ap asks_turns (sym c.policy_of-policy.ensures)
    ∙ (sym c.are_asked.ensures ∙ c.if-not-are_asked.true) in
    keeps_unasked m kept.vehicle new served (ap (asks_turns_of m) (sym part.same) ∙ none)

pub returns-clause-answer : goal.returns-clause-answer
returns-clause-answer c =
    let m : Model = c.args.node_tables.now in
    let lists : List (List ℕ) = c.args.routes.now.lists in
    let ends = c.write_between-splice.result in
    let old : List ℕ = route lists ends.vehicle in
    let new : List ℕ = joined lists (part_at c.args.change.now c.args.k).pieces in
    let middle = c.as_slice-2.result.now in
    let part =
    part_seen (c.write_between-splice.ensures c.args.node_tables.now c.requires.knows.knows_tours.well_formed c.requires.knows.knows_tours.tours_are)
    c.as_slice-2.ensures.value in
    let kept = rule_at (keeps_pairs m) lists c.requires.before ends.vehicle part.vehicle in
    let served = sym c.serves_between.ensures ∙ c.if-not-serves_between.false in
    c.takes_turns.ensures
    ∙ (ap (λ policy. takes_turns_between m policy old ends.front ends.behind middle) c.policy_of-policy.ensures
    ∙ (keeps_between m ends.vehicle old middle ends.front ends.behind c.requires.knows.knows_tours.well_formed part.seams
    (record {
      distinct = (tour_of m c.args.routes.now c.requires.knows.knows_tours.tours_are ends.vehicle part.vehicle).distinct;
      each_pair = and_left (list_all (serves_pair old) m.pairs) (keeps_policy m ends.vehicle old) kept;
    })
    (record { distinct = part.tour.distinct; each_pair = served })
    (and_right (list_all (serves_pair old) m.pairs) (keeps_policy m ends.vehicle old) kept)
    ∙ (ap (keeps_pairs m ends.vehicle) part.whole ∙ ap (λ w. keeps_pairs m w new) part.same)))
