-- What holds of lists once a choice is made.
use Rattle.std.proofs.Common.{◌≡◌, ◌∙◌, ℕ, List, Bool, ap, length, sym}
use Rattle.vr_model.specs.declared.records.Model.{Model}
use Rattle.vr_model.specs.moves.Moves.{with_route}
use Rattle.vr_model.specs.routes.Routes.{route}
use Rattle.vr_model.specs.routes.Rules.{is_open}
use Rattle.vr_rules.specs.Placing.{item_nodes, AreBuilt, AreMarkedToo, AreMarks}
use Rattle.vr_rules.proofs.PlacingLemmas.{IsAdded, AreBuilt-added, AreMarks-added}
use Rattle.vr_first_insert.specs.declared.choice.InsertionChoice.{InsertionChoice}
use Rattle.vr_first_insert.specs.Placings.{item_in, placed, MayBeInserted}
use Rattle.vr_first_insert.proofs.BestLemmas.{inserted-choice}
use Rattle.vr_first_insert.proofs.PlacedLemmas.{IsAdded-placed}

module _ (model : Model) (lists : List (List ℕ)) (choice : InsertionChoice) (built : AreBuilt model lists) (may : MayBeInserted model lists choice) where
  -- the list with the item
  pub made-added : IsAdded model lists choice.vehicle (item_nodes (item_in choice.placing)) (placed (route lists choice.vehicle) choice.placing)
  made-added = IsAdded-placed model lists choice.vehicle choice.placing built may.vehicle may.is_item may.inactive may.within

  -- the lists stay open
  pub made-built : AreBuilt model (with_route lists choice.vehicle (placed (route lists choice.vehicle) choice.placing))
  made-built =
      AreBuilt-added model lists choice.vehicle (item_nodes (item_in choice.placing)) (placed (route lists choice.vehicle) choice.placing) built made-added
      (ap (is_open model) (sym (inserted-choice lists choice)) ∙ may.stays_open)

  -- the marks are those of the lists, where the nodes of the item are marked too
  pub made-marks : (marks new : List Bool) → AreMarks model.nodes lists marks
      → length new ≡ length marks → AreMarkedToo marks (item_nodes (item_in choice.placing)) new
      → AreMarks model.nodes (with_route lists choice.vehicle (placed (route lists choice.vehicle) choice.placing)) new
  made-marks marks new are count too =
      AreMarks-added model lists choice.vehicle (placed (route lists choice.vehicle) choice.placing)
      (item_nodes (item_in choice.placing)) marks new are may.vehicle made-added.nodes_are count too
