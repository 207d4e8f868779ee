-- Lists with an item at its places, as code writes them.
use Rattle.std.proofs.Common.{◌≡◌, ◌∙◌, ◌<◌, ◌≤◌, ◌++◌, ℕ, List, true, refl, ap, arith, length}
use Rattle.std.specs.Prelude.{Option, All}
use Rattle.std.specs.List.{list_all}
use Rattle.std.proofs.lemmas.List.Sums.{fold-append}
use Rattle.vr_model.specs.declared.records.Model.{Model}
use Rattle.vr_model.specs.tables.Tables.{is_visit}
use Rattle.vr_model.specs.tables.WellFormed.{IsWellFormed}
use Rattle.vr_model.specs.routes.Routes.{is_distinct}
use Rattle.vr_model.specs.first.CheapestInsertion.{inserted_in}
use Rattle.vr_lists.proofs.VisitLists.{visits-below, visits-few}
use Rattle.vr_rules.specs.Placing.{item_nodes}
use Rattle.vr_ruin.specs.declared.placing.Offer.{Offer}
use Rattle.vr_ruin.specs.declared.placing.Placing.{Placing}
use Rattle.vr_ruin.specs.declared.placing.Placing.TheVariants.{One, Two}
use Rattle.vr_ruin.specs.Placings.{best_of, item_in, offer_for, placed, places_in, weigh, AreWithin, MayHold}
use Rattle.vr_ruin.proofs.Placed.{placed-distinct, placed-visits, AreIn}

-- a list with an item at its places, as insertions write it
pub placed_is : (list : List ℕ) (placing : Placing) → placed list placing ≡ inserted_in list (item_nodes (item_in placing)) (places_in placing)
placed_is list (One n t) = refl
placed_is list (Two p d s t) = refl

pub within_in : (list : List ℕ) (placing : Placing) → AreWithin list placing → AreIn (item_in placing) (places_in placing)
within_in list (One n t) within = (t, refl)
within_in list (Two p d s t) within = (s, t, within.0, refl)

module _ (model : Model) (list : List ℕ) (placing : Placing) (within : AreWithin list placing) (may : MayHold model list (item_in placing)) where
  pub visits_after : list_all (is_visit model) (placed list placing) ≡ true
  visits_after = ap (list_all (is_visit model)) (placed_is list placing)
      ∙ placed-visits model (item_in placing) list (places_in placing) (within_in list placing within) may.item_visits may.visits

  pub distinct_after : is_distinct (placed list placing) ≡ true
  distinct_after = ap is_distinct (placed_is list placing)
      ∙ placed-distinct (item_in placing) list (places_in placing) (within_in list placing within) may.item_distinct may.distinct may.absent

  pub nodes_after : All (λ node. node < model.nodes) (placed list placing)
  nodes_after = visits-below model (placed list placing) visits_after

  pub few_after : IsWellFormed model → length (placed list placing) ≤ 1000
  few_after well = let few = visits-few model (placed list placing) visits_after distinct_after in let n = well.number_of_nodes.1 in omega (arith, few, n)

-- first some places are weighed, then others
pub best_of_both : (model : Model) (v : ℕ) (list : List ℕ) (best : Option Offer) (xs ys : List Placing)
    → best_of model v list best (xs ++ ys) ≡ best_of model v list (best_of model v list best xs) ys
best_of_both model v list best xs ys = fold-append (λ best placing. weigh model list best (offer_for model v list placing)) best xs ys
