-- What was found of an item, as long as its list does not change.
use Rattle.std.specs.Prelude.{ℕ, ◌≤◌, ◌==◌, cond}
use Rattle.vr_first_insert.specs.declared.known_best.KnownItem.{KnownItem}
use Rattle.vr_first_insert.specs.declared.known_best.KnownItem.TheVariants.{Nothing}
use Rattle.vr_first_insert.specs.declared.known_items.FoundItem.{FoundItem}

-- what is known after a number of changes of the list
abbrev pub known_after : ℕ → FoundItem → KnownItem
known_after changes found = cond (found.since == changes) found.known Nothing

-- it was found after no more changes
abbrev pub IsFoundBy : ℕ → FoundItem → Type 0
IsFoundBy changes found = found.since ≤ changes
