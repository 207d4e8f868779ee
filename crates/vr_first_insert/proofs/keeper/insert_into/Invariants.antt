use Rattle.std.proofs.Common.{◌≡◌, ◌<◌, ℕ, length}
use Rattle.vr_model.specs.routes.Routes.{route}
use Rattle.vr_first_insert.specs.KeptRows.{AreKeptRows}
use Rattle.vr_first_insert.specs.Kept.{AreKnownRows}
use Rattle.vr_first_insert.proofs.keeper.insert_into.Given as goal

-- the lists so far are those of the routes
abbrev pub invariant-loop-v : goal.invariant-loop-v
invariant-loop-v l = record {
  vehicles : length l.lists ≡ length l.items.lookups.now.closed.model.now.vehicles;
  taken : (w : ℕ) → w < l.v → route l.lists w ≡ route l.routes.lists w;
  kept : AreKeptRows l.items.lookups.now.closed.model.now l.lists l.list_rows;
  known : AreKnownRows l.items.lookups.now.closed.model.now l.lists l.items.candidates.now l.known_items;
}
