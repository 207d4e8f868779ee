use Rattle.std.proofs.Common.{ℕ, ◌≡◌, ◌-◌, ◌+◌, ◌*◌, length}
use Rattle.std.specs.List.{range_with_len}
use Rattle.vr_model.specs.tables.Numbers.{each}
use Rattle.vr_model.specs.routes.Routes.{arcs_of, route}
use Rattle.vr_model.specs.search.GuidedSearches.{raised}
use Rattle.vr_guided.specs.Counts.{AtMost, counted}
use Rattle.std.specs.Prelude.{IsTrue}
use Rattle.vr_model.specs.declared.neighbours.Neighbourhood.{Neighbourhood}
use Rattle.vr_known.specs.Blocks.{Learns, is_known}
use Rattle.vr_guided.specs.Sparing.{SparesKnown}
use Rattle.vr_guided.specs.Worths.{raised_in_turn}
use Rattle.vr_guided.proofs.penalties.Penalties.raise.Given as goal

-- the vehicles so far are raised, and those from here on are left
abbrev pub invariant-loop-vehicle : goal.invariant-loop-vehicle
invariant-loop-vehicle l = record {
  goes : raised_in_turn l.closed.model.now l.greatest (counted l.self)
      (each (range_with_len l.vehicle (length l.closed.model.now.vehicles - l.vehicle)) (λ v. arcs_of l.closed.model.now v (route l.routes.lists v)))
      ≡ raised l.closed.model.now (counted l.initial.self) l.routes.lists;
  nodes : l.self.nodes ≡ l.closed.model.now.nodes;
  few : AtMost (1000000000 + 1001 * l.vehicle) (counted l.self);
  fewer : (k : Neighbourhood) (u w : ℕ) → IsTrue (is_known l.known k u w) → IsTrue (is_known l.initial.known k u w);
  spares : SparesKnown l.routes.lists (counted l.initial.self) (counted l.self) l.known;
  learns : Learns l.known → Learns l.initial.known;
}
