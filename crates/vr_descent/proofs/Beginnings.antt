-- How a search begins: it tells of the first solution, and what is left is the search from there.
use Rattle.std.proofs.Common.{◌≡◌, ◌∙◌, ◌≤◌, List, [], ◌∷◌, ℕ, sym, ap, arith, w64, to_z, of_z}
use Rattle.std.proofs.lemmas.Int.{ints}
use Rattle.std.specs.Prelude.{ℤ, IsTrue}
use Rattle.vr_model.specs.routes.Costs.{cost}
use Rattle.vr_model.specs.routes.Rules.{is_valid}
use Rattle.vr_model.specs.search.Outcomes.{Outcome, begun, event_at}
use Rattle.vr_model.specs.tables.WellFormed.{IsWellFormed}
use Rattle.vr_model.specs.declared.records.Model.{Model}
use Rattle.vr_model.specs.declared.search.Event.{Event}
use Rattle.vr_model.specs.declared.search.Kind.TheVariants as kind
use Rattle.vr_model.specs.declared.search.Limit.{Limit}
use Rattle.vr_model.proofs.routes.CostFits.{costs_are_bounded}
use Rattle.vr_routes.specs.Judging.{HasCommitted}
use Rattle.vr_routes.specs.Tours.{Tours}
use Rattle.vr_watch.specs.Told.{Reported, ReportedInPart}
use Rattle.vr_watch.proofs.ToldLemmas.{told_nothing}
use Rattle.vr_descent.specs.Incumbents.{IsBest, IsUnderWay}
use Rattle.vr_descent.specs.Searching.{behind, event_of}
use Rattle.vr_descent.specs.declared.incumbent.Incumbent.{Incumbent}
use Rattle.vr_descent.specs.declared.progress.Progress.{Progress}
use Rattle.vr_descent.proofs.GoingOn.{Goes, breaks_off, goes_more}

-- where a search stands that begins at lists of this cost
abbrev pub at_first : Model → List (List ℕ) → Progress
at_first model lists = record { used = 0; found = 1; cost = cost model lists }

-- the first event of a search
abbrev pub first : Model → List (List ℕ) → Event
first model lists = event_at model (begun lists) kind.First

-- the cost of the first lists is read as it is, and so the first event tells of it
module _ (model : Model) (well_formed : IsWellFormed model) (lists : List (List ℕ))
    (valid : IsTrue (is_valid model lists)) (total : ℤ) (costs : total ≡ cost model lists) where
  pub cost_read : to_z w64 (of_z w64 total) ≡ cost model lists
  cost_read = let fits = costs_are_bounded model well_formed lists valid in omega (arith, ints, costs, fits.least, fits.greatest)

  pub first_event : (event : Event) → event ≡ event_of (record { used = 0; found = 1; cost = to_z w64 (of_z w64 total) }) kind.First → event ≡ first model lists
  first_event event is = is ∙ ap (λ k. event_of (record { used = 0; found = 1; cost = k }) kind.First) cost_read

module _ {W : Type 0} (after : W → List Event → List ℕ) (whole rest : Outcome) (event : Event) (begins : whole ≡ behind (event ∷ []) rest) (a b : List W) where
  start : Goes after whole (behind (event ∷ []) rest) a a
  start = record { told = []; outcome = begins; heard = told_nothing after a }

  -- the first event was told in part
  pub first_in_part : ReportedInPart after a b (event ∷ []) → ReportedInPart after a b whole.events
  first_in_part told = breaks_off after whole rest (event ∷ []) a a b start told

  -- the first event was told
  pub first_told : Reported after a b (event ∷ []) → Goes after whole rest a b
  first_told told = goes_more after whole rest (event ∷ []) a a b start told

-- the first lists are the best
pub first_is_best : (model : Model) (routes : Tours) (best : Incumbent) → best ≡ record { routes = routes; cost = cost model routes.lists }
    → IsTrue (is_valid model routes.lists) → IsBest model routes.visits best
first_is_best model routes best is valid = record {
  costs = ap (λ b. b.cost) is ∙ sym (ap (λ b. cost model b.routes.lists) is);
  valid = ap (λ b. is_valid model b.routes.lists) is ∙ valid;
  same_visits = ap (λ b. b.routes.visits) is;
}

-- at its beginning a search is under way
pub under_way : (model : Model) (limit : Limit) (routes : Tours) (at : Progress) (best : Incumbent) (committed : Tours → Type 0)
    → at ≡ at_first model routes.lists → best ≡ record { routes = routes; cost = cost model routes.lists }
    → HasCommitted model committed routes → 1 ≤ limit.solutions → IsUnderWay model limit committed routes at best
under_way model limit routes at best committed at_is best_is holds some =
    let used = ap (λ p. p.used) at_is in
    let found = ap (λ p. p.found) at_is in
    record {
      holds = holds;
      costs = ap (λ p. p.cost) at_is;
      used = omega (arith, used);
      some = omega (arith, found);
      found = omega (arith, found, some);
      best = first_is_best model routes best best_is holds.valid;
    }
