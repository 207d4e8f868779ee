use Rattle.std.proofs.Common.{◌≡◌, ◌++◌, ◌-◌, List, length}
use Rattle.std.specs.Prelude.{filter, IfSome}
use Rattle.std.specs.Option.{option_map}
use Rattle.vr_model.specs.tables.Numbers.{from_to}
use Rattle.vr_model.specs.first.CheapestInsertion.{Insertion}
use Rattle.vr_rules.specs.Placing.{item_nodes}
use Rattle.vr_strings.specs.Sorting.{sorted_by}
use Rattle.vr_ruin.specs.Cheapest.{first_in, IsCheapest}
use Rattle.vr_ruin.specs.Makings.{is_asked}
use Rattle.vr_ruin.specs.Offers.{offers_of, rank_key}
use Rattle.vr_ruin.specs.Ranks.{insertion_at}
use Rattle.vr_ruin.proofs.cheapest.cheapest_among.Given as goal

-- the best is the first of the offers of the last vehicles, in front of those that were
abbrev pub invariant-loop-w : goal.invariant-loop-w
invariant-loop-w l = record {
  trial : l.trial ≡ l.fn.trial;
  cheapest : IfSome l.best (IsCheapest l.fn.trial.model l.fn.trial.lists);
  first : (xs : List Insertion) → option_map insertion_at l.fn.best ≡ first_in (sorted_by (rank_key l.fn.trial.model l.fn.trial.lists) xs)
      → option_map insertion_at l.best ≡ first_in (sorted_by (rank_key l.fn.trial.model l.fn.trial.lists)
      (offers_of l.fn.trial.model l.fn.trial.lists (item_nodes l.item)
      (filter (is_asked l.fn.trial.lists l.are_used) (from_to (length l.fn.trial.lists - l.w) (length l.fn.trial.lists))) ++ xs));
}
