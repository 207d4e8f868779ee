use Rattle.std.proofs.Common.{◌≡◌, ◌∙◌, ◌<◌, ◌+◌, ◌-◌, ◌++◌, List, [], ◌∷◌, refl, ap, subst, sym, arith, length}
use Rattle.std.specs.Prelude.{filter, IfSome}
use Rattle.std.specs.Option.{option_map}
use Rattle.vr_model.specs.tables.Numbers.{from_to}
use Rattle.vr_model.specs.first.CheapestInsertion.{Insertion}
use Rattle.vr_rules.specs.Placing.{item_nodes}
use Rattle.vr_strings.specs.Sorting.{sorted_by}
use Rattle.vr_ruin.specs.Cheapest.{first_in, IsCheapest}
use Rattle.vr_ruin.specs.Makings.{is_asked}
use Rattle.vr_ruin.specs.Offers.{offers_of, rank_key}
use Rattle.vr_ruin.specs.Ranks.{insertion_at}
use Rattle.vr_model.proofs.tables.Ranges.{none_left}
use Rattle.vr_ruin.proofs.MakingLemmas.{next_asked}
use Rattle.vr_ruin.proofs.cheapest.cheapest_among.Goals as goal

pub loop-w-init : goal.loop-w-init
loop-w-init c =
    let t = c.args.trial.now in
    let n = length t.lists in
    record {
      trial = refl;
      cheapest = c.requires.best;
      first = λ xs begun. begun ∙ ap
          (λ vs. first_in
          (sorted_by (rank_key t.model t.lists) (offers_of t.model t.lists (item_nodes c.args.item) (filter (is_asked t.lists c.args.are_used) vs) ++ xs)))
          (sym (none_left (n - 0) n (omega arith)));
    }

pub loop-w-preserved : goal.loop-w-preserved
loop-w-preserved c =
    let t = c.args.trial.now in
    let n = length t.lists in
    let v = (c.vehicles-vehicles.result - 1) - c.loop-w.w in
    let nodes = item_nodes c.args.item in
    let p = is_asked t.lists c.args.are_used in
    let same = c.loop-w.invariant.trial in
    let many = c.vehicles-vehicles.ensures.value in
    let first : n - c.loop-w.w ≡ v + 1 = omega (arith, many, c.loop-w-test.true) in
    let last : v ≡ n - (c.loop-w.w + 1) = omega (arith, many, c.loop-w-test.true) in
    let low : v < n = omega (arith, many, c.loop-w-test.true) in
    record {
      trial = c.in_ok-best.ensures.trial ∙ same;
      cheapest = subst (λ t. IfSome c.in_ok-best.best (IsCheapest t.model t.lists)) same c.in_ok-best.ensures.best;
      first = λ xs begun.
          subst (λ t. (xs : List Insertion) → option_map insertion_at c.loop-w.best ≡ first_in (sorted_by (rank_key t.model t.lists) xs)
          → option_map insertion_at c.in_ok-best.best
          ≡ first_in (sorted_by (rank_key t.model t.lists) (offers_of t.model t.lists nodes (filter (is_asked t.lists c.args.are_used) (v ∷ [])) ++ xs)))
          same c.in_ok-best.ensures.first
          (offers_of t.model t.lists nodes (filter p (from_to (n - c.loop-w.w) n)) ++ xs) (c.loop-w.invariant.first xs begun)
          ∙ ap (λ a. first_in (sorted_by (rank_key t.model t.lists)
          (offers_of t.model t.lists nodes (filter p (v ∷ [])) ++ (offers_of t.model t.lists nodes (filter p (from_to a n)) ++ xs)))) first
          ∙ ap (λ os. first_in (sorted_by (rank_key t.model t.lists) os)) (next_asked t.model t.lists c.know.ensures.built nodes p v n xs low)
          ∙ ap (λ a. first_in (sorted_by (rank_key t.model t.lists) (offers_of t.model t.lists nodes (filter p (from_to a n)) ++ xs))) last;
    }
