-- How early the lists after a change can end.
use Rattle.std.specs.Prelude.{◌≡◌, ◌<◌, ◌≤◌, ℕ, All, List, length, pos, neg_ℤ}
use Rattle.vr_model.specs.tables.Numbers.{horizon}
use Rattle.vr_model.specs.tables.Tables.{dimension_at}
use Rattle.vr_model.specs.tables.WellFormed.{IsIn, IsWellFormed}
use Rattle.vr_model.specs.declared.records.Model.{Model}
use Rattle.vr_earliest.specs.Earlies.{early_at, AreEarlies}
use Rattle.vr_earliest.specs.Kept.{IsUnpaid}
use Rattle.vr_earliest.specs.declared.earlies.Early.{Early}
use Rattle.vr_routes.specs.Changes.{AreParts}
use Rattle.vr_routes.specs.Pieces.{ListAfter}

-- these rows tell of each list after a change of lists, of which there is one for each vehicle of a well formed model
pub record AreEarlyParts (model : Model) (lists : List (List ℕ)) (parts : List ListAfter) (rows : List (List Early))
    : Type 0 where
  pub well_formed : IsWellFormed model
  pub as_many : length lists ≡ length model.vehicles
  pub parts_are : AreParts lists parts
  pub earlies : AreEarlies model lists parts rows

-- both numbers that are known of a list are in their range
pub record IsEarlyInRange (early : Early) : Type 0 where
  pub last : IsIn (pos 0) horizon early.last
  pub span : IsIn (neg_ℤ horizon) horizon early.span

-- parts are of vehicles of a well formed model. In each dimension in which anything is paid for spans, what rows tell
-- of them is in its range.
pub record AreEarlyInRange (model : Model) (parts : List ListAfter) (rows : List (List Early)) : Type 0 where
  pub well_formed : IsWellFormed model
  pub few : length parts ≤ 2
  pub known : All (λ part. part.vehicle < length model.vehicles) parts
  pub range : (d : ℕ) → d < length model.dimensions → (IsUnpaid (dimension_at model d) → ⊥) → (k : ℕ)
      → k < length parts → IsEarlyInRange (early_at rows d k)
