use Rattle.std.proofs.Common.{◌≡◌, ◌-◌, length}
use Rattle.vr_model.specs.first.CheapestInsertion.{rebuilt}
use Rattle.vr_rules.specs.Placing.{AreBuilt, AreMarks}
use Rattle.vr_first_insert.specs.KeptRows.{AreKeptRows}
use Rattle.vr_first_insert.specs.Kept.{AreKnownRows}
use Rattle.vr_first_insert.specs.Waiting.{AreWaiting}
use Rattle.vr_first_insert.proofs.search.insert_waiting.Given as goal

-- what is rebuilt from here with the steps that are left is what is rebuilt from the start with all of them
abbrev pub invariant-loop-step : goal.invariant-loop-step
invariant-loop-step l = record {
  rebuilds : rebuilt l.items.lookups.now.closed.model.now (length l.items.candidates.now - l._step) l.lists
      ≡ rebuilt l.items.lookups.now.closed.model.now (length l.items.candidates.now) l.initial.lists;
  built : AreBuilt l.items.lookups.now.closed.model.now l.lists;
  marked : AreMarks l.items.lookups.now.closed.model.now.nodes l.lists l.marks;
  waiting : AreWaiting l.items.lookups.now.closed.model.now l.lists l.items.candidates.now l.waiting;
  known : AreKnownRows l.items.lookups.now.closed.model.now l.lists l.items.candidates.now l.known_items;
  kept : AreKeptRows l.items.lookups.now.closed.model.now l.lists l.list_rows;
}
