-- Changes with what is known of how early the lists after them can end.
use Rattle.std.specs.Prelude.{ℕ, List}
use Rattle.vr_costfilter.specs.EarlyParts.{AreEarlyParts}
use Rattle.vr_costfilter.specs.declared.early_change.EarlyChange.{EarlyChange}

-- the change is one of these lists, and it is known how early they can end after it
abbrev pub IsEarlyOf : EarlyChange → List (List ℕ) → Type 0
IsEarlyOf early lists = AreEarlyParts early.model.now lists early.change.now early.earlies.now
