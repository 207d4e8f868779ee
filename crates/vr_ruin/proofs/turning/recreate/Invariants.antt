use Rattle.std.proofs.Common.{◌≡◌, drop, map}
use Rattle.std.specs.Prelude.{fold}
use Rattle.vr_strings.specs.Turns.{item_at}
use Rattle.vr_ruin.specs.Offers.{put_back}
use Rattle.vr_ruin.proofs.Remade.{AreToPlace}
use Rattle.vr_ruin.proofs.turning.recreate.Given as goal

-- the items that are left are still to be put back, and what they make is what all make
abbrev pub invariant-loop-k : goal.invariant-loop-k
invariant-loop-k l = record {
  model : l.trial.model ≡ l.fn.trial.model;
  turn : AreToPlace l.fn.trial.model l.trial.lists (map (item_at l.fn.trial.model) (drop l.k-index l.order));
  left : fold (put_back l.fn.trial.model l.wide) (l.trial.lists, l.words) (map (item_at l.fn.trial.model) (drop l.k-index l.order))
      ≡ fold (put_back l.fn.trial.model l.wide) (l.fn.trial.lists, l.fn.words) (map (item_at l.fn.trial.model) l.order);
}
