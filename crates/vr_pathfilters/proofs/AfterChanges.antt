-- What is known of tours is right after a change.
use Rattle.std.specs.Prelude.{List}
use Rattle.vr_model.specs.declared.records.Model.{Model}
use Rattle.vr_routes.specs.Tours.{Tours}
use Rattle.vr_routes.specs.Pieces.{ListAfter}
use Rattle.vr_routes.specs.Changes.{IsMadeOn, after}
use Rattle.vr_routes.proofs.CommitLemmas.{as_many_lists, once_after, entry_after}
use Rattle.std.proofs.Common.{◌∙◌}
use Rattle.vr_pathfilters.specs.TourLists.{AreTours}

-- the lists after a change are tours too
pub tours_after : (model : Model) (tours : Tours) → AreTours model tours → (parts : List ListAfter)
    → IsMadeOn tours parts → AreTours model (after tours parts)
tours_after model tours are parts made = record {
  visits_are = are.visits_are;
  list_of_each = as_many_lists tours.lists parts ∙ are.list_of_each;
  once = once_after tours parts made are.once;
  entries = entry_after tours parts made are.once are.entries;
}
