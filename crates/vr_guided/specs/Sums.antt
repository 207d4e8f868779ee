-- Sums of what arcs add along the lists of vehicles.
use Rattle.std.specs.Prelude.{◌≡◌, ℕ, suc, ◌+◌, ◌<◌, ◌≤◌, ◌*◌, ◌^◌, Bool, cond, List, length, take}
use Rattle.std.specs.Prelude.{ℤ, pos, ◌-ℤ◌, ◌≤ℤ◌}
use Rattle.vr_model.specs.tables.Numbers.{number_at, total_by}
use Rattle.vr_model.specs.tables.WellFormed.{IsIn}
use Rattle.vr_model.specs.routes.Routes.{UsedArc, arcs_from}
use Rattle.vr_model.specs.search.GuidedSearches.{Penalties}
use Rattle.vr_model.specs.declared.records.Model.{Model}
use Rattle.vr_guided.specs.Walks.{arc_weight}

-- what an arc adds that is taken from its target back to its origin
abbrev pub weight_back : Model → Penalties → UsedArc → ℤ
weight_back model p arc = arc_weight model p (record {
  vehicle = arc.vehicle;
  origin = arc.target;
  target = arc.origin;
})

-- what an arc adds that is taken forward, or back
abbrev pub weight_by : Model → Penalties → Bool → UsedArc → ℤ
weight_by model p back = cond back (weight_back model p) (arc_weight model p)

-- each sum is from 0 to 2^70 times the number of sums before it
abbrev pub HaveWideRange : List ℤ → Type 0
HaveWideRange sums = (k : ℕ) → k < length sums → IsIn (pos 0) (pos (k * 2 ^ 70)) (number_at sums k)

-- from a node through others: at each place, what the arcs of vehicle v before it add up to
pub record AreArcSums (f : UsedArc → ℤ) (v node : ℕ) (nodes : List ℕ) (sums : List ℤ) : Type 0 where
  pub many : length sums ≡ suc (length nodes)
  pub each : (k : ℕ) → k ≤ length nodes → number_at sums k ≡ total_by f (arcs_from v node (take k nodes))

-- `arcs` arcs that follow one another add at most `most`
abbrev pub AddAtMost : List ℤ → ℕ → ℤ → Type 0
AddAtMost sums arcs most = (k : ℕ) → k + arcs < length sums → (number_at sums (k + arcs) -ℤ number_at sums k) ≤ℤ most
