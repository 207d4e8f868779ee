use Rattle.std.proofs.Common.{◌≡◌, ◌∙◌, ◌+◌, ◌-◌, ◌||◌, ℕ, List, Some, ap, sym, subst, arith, length, length-set}
use Rattle.std.specs.Prelude.{slice_index_or}
use Rattle.std.specs.Option.{option_map}
use Rattle.vr_model.specs.routes.Routes.{route, holds}
use Rattle.vr_model.specs.moves.Moves.{with_route}
use Rattle.vr_model.specs.first.CheapestInsertion.{rebuilt, next_inserted}
use Rattle.vr_rules.specs.Placing.{item_nodes, AreBuilt, AreMarks}
use Rattle.vr_first_insert.specs.declared.choice.InsertionChoice.{InsertionChoice}
use Rattle.vr_first_insert.specs.Placings.{insertion_of, item_in, placed, MayBeInserted}
use Rattle.vr_first_insert.specs.Kept.{AreKnownRows}
use Rattle.vr_first_insert.specs.Waiting.{unplaced_of, waiting_candidates, IsWaitingElsewhere}
use Rattle.vr_model.specs.first.Items.{unplaced}
use Rattle.std.specs.List.{All}
use Rattle.vr_first_insert.proofs.BestLemmas.{rebuilt-stops, rebuilt-next, candidates-count, inserted-choice}
use Rattle.vr_first_insert.proofs.KeptLemmas.{rows-forgotten}
use Rattle.vr_first_insert.proofs.MadeLemmas.{made-added, made-built, made-marks}
use Rattle.vr_first_insert.proofs.WaitingLemmas.{all-elsewhere, waiting-later}
use Rattle.vr_first_insert.proofs.search.insert_waiting.Goals as goal

pub returns-in-None-clause-rebuilt : goal.returns-in-None-clause-rebuilt
returns-in-None-clause-rebuilt c =
    let model = c.args.items.now.lookups.now.closed.model.now in
    sym (rebuilt-stops model (length c.args.items.now.candidates.now - c.loop-step._step)
    c.loop-step.lists (sym c.in_ok-next.ensures.next ∙ ap (option_map insertion_of) c.in-None.is))
    ∙ c.loop-step.invariant.rebuilds
    ∙ ap (λ n. rebuilt model n c.args.lists.now) (candidates-count model c.args.items.now.candidates.now c.requires.may.items_are)

pub next_insertion-requires-clause-may : goal.next_insertion-requires-clause-may
next_insertion-requires-clause-may c =
    let so_far = c.loop-step.invariant in
    record { items_are = c.requires.may.items_are; kept = so_far.kept; built = so_far.built; marks = so_far.marked; rows = so_far.known }

pub place_in-requires-clause-may : goal.place_in-requires-clause-may
place_in-requires-clause-may c = rw c.in-Some.is at c.in_ok-next.ensures.may

pub forget-requires : goal.forget-requires
forget-requires c =
    let may : MayBeInserted c.args.items.now.lookups.now.closed.model.now c.loop-step.lists c.in-Some.choice = rw c.in-Some.is at c.in_ok-next.ensures.may in
    let there = may.vehicle in
    let many = c.in_ok-next.ensures.known.many in
    record { vehicle = omega (arith, there, many) }

pub lower-requires-clause-lower : goal.lower-requires-clause-lower
lower-requires-clause-lower c =
    let model = c.args.items.now.lookups.now.closed.model.now in
    let lists : List (List ℕ) = c.loop-step.lists in
    let after : List (List ℕ) = c.place_in.new.lists in
    let choice : InsertionChoice = c.in-Some.choice in
    let v : ℕ = choice.vehicle in
    let list : List ℕ = placed (route lists v) choice.placing in
    let may : MayBeInserted model lists choice = rw c.in-Some.is at c.in_ok-next.ensures.may in
    let is : after ≡ with_route lists v list = c.in_ok-place_in-in-Some.ensures.lists in
    let there = may.vehicle in
    let many = ap length is ∙ length-set lists v list in
    record {
      items_are = c.requires.may.items_are;
      kept = c.in_ok-place_in-in-Some.ensures.kept;
      built = subst (AreBuilt model) (sym is) (made-built model lists choice c.loop-step.invariant.built may);
      marks = subst (λ lists. AreMarks model.nodes lists c.mark_item.new.marks) (sym is)
          (made-marks model lists choice c.loop-step.invariant.built may c.loop-step.marks
          c.mark_item.new.marks c.loop-step.invariant.marked c.mark_item.ensures.count
          (λ node d low. c.mark_item.ensures.each node d low
          ∙ ap (λ item. holds (item_nodes item) node || slice_index_or c.loop-step.marks node d) c.item.ensures));
      there = omega (arith, there, many);
      waits = subst (λ lists. All (IsWaitingElsewhere model lists v c.args.items.now.candidates.now) c.next_insertion.new.waiting) (sym is)
          (all-elsewhere model lists v list c.args.items.now.candidates.now c.next_insertion.new.waiting c.in_ok-next.ensures.waiting.each);
    }

pub lower-requires-clause-known : goal.lower-requires-clause-known
lower-requires-clause-known c =
    let model = c.args.items.now.lookups.now.closed.model.now in
    let lists : List (List ℕ) = c.loop-step.lists in
    let candidates = c.args.items.now.candidates.now in
    let choice : InsertionChoice = c.in-Some.choice in
    let v : ℕ = choice.vehicle in
    let list : List ℕ = placed (route lists v) choice.placing in
    let may : MayBeInserted model lists choice = rw c.in-Some.is at c.in_ok-next.ensures.may in
    let is : c.place_in.new.lists ≡ with_route lists v list = c.in_ok-place_in-in-Some.ensures.lists in
    subst (λ lists. AreKnownRows model lists candidates c.forget.new.known_items) (sym is)
    (rows-forgotten model lists candidates c.next_insertion.new.known_items
    c.forget.new.known_items v list may.vehicle c.in_ok-next.ensures.known c.forget.ensures)

pub loop-step-preserved : goal.loop-step-preserved
loop-step-preserved c =
    let model = c.args.items.now.lookups.now.closed.model.now in
    let lists : List (List ℕ) = c.loop-step.lists in
    let candidates = c.args.items.now.candidates.now in
    let n : ℕ = length candidates in
    let choice : InsertionChoice = c.in-Some.choice in
    let v : ℕ = choice.vehicle in
    let nodes : List ℕ = item_nodes (item_in choice.placing) in
    let list : List ℕ = placed (route lists v) choice.placing in
    let may : MayBeInserted model lists choice = rw c.in-Some.is at c.in_ok-next.ensures.may in
    let next : next_inserted model lists ≡ Some (insertion_of choice) = sym c.in_ok-next.ensures.next ∙ ap (option_map insertion_of) c.in-Some.is in
    let is : c.place_in.new.lists ≡ with_route lists v list = c.in_ok-place_in-in-Some.ensures.lists in
    record {
      rebuilds = ap (rebuilt model (n - (c.loop-step._step + 1))) (is ∙ sym (inserted-choice lists choice))
          ∙ sym (rebuilt-next model (n - c.loop-step._step) (n - (c.loop-step._step + 1)) lists (insertion_of choice) next (omega arith))
          ∙ c.loop-step.invariant.rebuilds;
      built = subst (AreBuilt model) (sym is) (made-built model lists choice c.loop-step.invariant.built may);
      marked = subst (λ lists. AreMarks model.nodes lists c.mark_item.new.marks) (sym is)
          (made-marks model lists choice c.loop-step.invariant.built may c.loop-step.marks
          c.mark_item.new.marks c.loop-step.invariant.marked c.mark_item.ensures.count
          (λ node d low. c.mark_item.ensures.each node d low
          ∙ ap (λ item. holds (item_nodes item) node || slice_index_or c.loop-step.marks node d) c.item.ensures));
      known = c.lower.ensures.known;
      waiting = record {
        each = c.lower.ensures.waiting;
        all = subst (λ those. unplaced_of c.place_in.new.lists those ≡ unplaced model c.place_in.new.lists) (sym c.lower.ensures.same)
            (subst (λ lists. unplaced_of lists (waiting_candidates candidates c.next_insertion.new.waiting) ≡ unplaced model lists) (sym is)
            (waiting-later model lists v list nodes (waiting_candidates candidates c.next_insertion.new.waiting) may.vehicle
            (made-added model lists choice c.loop-step.invariant.built may).nodes_are c.in_ok-next.ensures.waiting.all));
      };
      kept = c.in_ok-place_in-in-Some.ensures.kept;
    }
