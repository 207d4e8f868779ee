-- What is known of a vehicle with a list is known of what it is asked.
use Rattle.std.proofs.Common.{◌≡◌, ◌∙◌, ℕ, List, sym, subst}
use Rattle.vr_spans.specs.declared.runs.Run.{Run}
use Rattle.vr_model.specs.declared.records.Model.{Model}
use Rattle.vr_model.specs.schedules.Lines.{line}
use Rattle.vr_reach.specs.declared.stops.ListStops.{ListStops}
use Rattle.vr_reach.specs.declared.stops.StopsFor.{StopsFor}
use Rattle.vr_reach.specs.Asked.{IsAskedOf}
use Rattle.vr_reach.specs.KnownRows.{IsReachingFrom}
use Rattle.vr_reach.specs.Standing.{IsReachedAt}
use Rattle.vr_reach.specs.Tested.{IsReachedBy, IsReachingBy}
use Rattle.vr_reach.specs.VehicleStops.{line_of}
use Rattle.vr_reach.proofs.DrivenLemmas.{reached_by, reaching_by}

-- the list as it is held is the list
module _ {stops : StopsFor} {held list : List ℕ} {asked : ListStops} (same : held ≡ list) (is : IsAskedOf stops held asked) where
  -- what is so of the vehicle with the list is so of what it is asked
  pub asked_so : (P : Model → ℕ → ℕ → List ℕ → Type 0) → P stops.closed.model.now stops.d stops.v list
      → P asked.of.closed.model.now asked.of.d asked.of.v asked.of.list.now
  asked_so P known = subst (λ T. T) (λ i. P (sym is.model_is i) (sym is.d_is i) (sym is.v_is i) (sym (is.list_is ∙ same) i)) known

  -- and the other way round
  pub so_asked : (P : Model → ℕ → ℕ → List ℕ → Type 0)
      → P asked.of.closed.model.now asked.of.d asked.of.v asked.of.list.now → P stops.closed.model.now stops.d stops.v list
  so_asked P known = subst (λ T. T) (λ i. P (is.model_is i) (is.d_is i) (is.v_is i) ((is.list_is ∙ same) i)) known

  -- what a leg begins with
  pub begun_as_asked : (k : ℕ) (levels : List (List Run))
      → IsReachedAt stops.closed.model.now stops.d stops.v list k levels → IsReachedBy (line_of asked.of) k levels
  begun_as_asked k levels at = asked_so (λ m d v l. IsReachedBy (line m d v l) k levels) (reached_by stops.closed.model.now stops.d stops.v list k levels at)

  -- what it meets
  pub met_as_asked : (k : ℕ) (levels : List (List Run))
      → IsReachingFrom stops.closed.model.now stops.d stops.v list k levels → IsReachingBy (line_of asked.of) k levels
  met_as_asked k levels at = asked_so (λ m d v l. IsReachingBy (line m d v l) k levels) (reaching_by stops.closed.model.now stops.d stops.v list k levels at)
