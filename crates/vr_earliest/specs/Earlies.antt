-- What is known of the lists after a change.
use Rattle.std.specs.Prelude.{◌≡◌, ◌<◌, ◌≤◌, ℕ, All, List, [], length, slice_index_or, pos, neg_ℤ}
use Rattle.vr_model.specs.tables.Numbers.{horizon}
use Rattle.vr_model.specs.tables.Tables.{dimension_at}
use Rattle.vr_model.specs.tables.WellFormed.{IsIn}
use Rattle.vr_model.specs.declared.records.Model.{Model}
use Rattle.vr_routes.specs.Changes.{AreParts}
use Rattle.vr_routes.specs.Pieces.{ListAfter, joined, part_at}
use Rattle.vr_earliest.specs.Kept.{IsUnpaid, KeptEarly, StandsEarliest}
use Rattle.vr_earliest.specs.Ways.{earliest_end, least_span}
use Rattle.vr_earliest.specs.declared.earlies.Early.{Early}

-- what is read if nothing is known
abbrev pub no_early : Early
no_early = record { last = pos 0; span = pos 0 }

-- what rows tell in dimension d of part k
abbrev pub early_at : List (List Early) → ℕ → ℕ → Early
early_at rows d k = slice_index_or (slice_index_or rows d []) k no_early

-- what the chosen schedule of a list of vehicle v comes to at least in dimension d
pub record IsEarly (model : Model) (d v : ℕ) (list : List ℕ) (early : Early) : Type 0 where
  pub last : early.last ≡ earliest_end model d v list
  pub span : early.span ≡ least_span model d v list
  pub last_range : IsIn (pos 0) horizon early.last
  pub span_range : IsIn (neg_ℤ horizon) horizon early.span

-- the same of the list that a part gives its vehicle
abbrev pub IsEarlyPart : Model → List (List ℕ) → ℕ → ListAfter → Early → Type 0
IsEarlyPart model lists d part early = IsEarly model d part.vehicle (joined lists part.pieces) early

-- it is known of each part in dimension d
abbrev pub IsEarlyRow : Model → List (List ℕ) → List ListAfter → ℕ → List Early → Type 0
IsEarlyRow model lists parts d row =
    (k : ℕ) → k < length parts → IsEarlyPart model lists d (part_at parts k) (slice_index_or row k no_early)

-- the lists of these parts have nodes of the model alone, and in dimension d ways are kept of all lists before
pub record MayTell (early : KeptEarly) (lists : List (List ℕ)) (parts : List ListAfter) (d : ℕ) : Type 0 where
  pub stands : StandsEarliest early lists
  pub dimension : d < length early.model.dimensions
  pub of_all : length (slice_index_or early.kept d []) ≡ length lists
  pub parts_are : AreParts lists parts
  pub below : (k : ℕ) → k < length parts
      → All (λ node. node < early.model.nodes) (joined lists (part_at parts k).pieces)

-- it is known in each dimension in which anything is paid for spans
pub record AreEarlies (model : Model) (lists : List (List ℕ)) (parts : List ListAfter) (rows : List (List Early))
    : Type 0 where
  pub few : length parts ≤ 2
  pub each : (d : ℕ) → d < length model.dimensions → (IsUnpaid (dimension_at model d) → ⊥)
      → IsEarlyRow model lists parts d (slice_index_or rows d [])
