-- A part of a change, as other nodes between the ends that it keeps of a list.
use Rattle.std.specs.Prelude.{◌≡◌, ℕ, ◌<◌, ◌≤◌, List, length, All}
use Rattle.vr_model.specs.routes.Routes.{route}
use Rattle.vr_model.specs.declared.records.Model.{Model}
use Rattle.vr_reach.specs.Lists.{IsTour}
use Rattle.vr_reach.specs.Spliced.{AreSeams, spliced}
use Rattle.vr_routes.specs.Pieces.{ListAfter, joined}

-- nodes between the ends of the list of v make the list of a part. It is a tour of a model of at most 1000 nodes.
pub record IsPartBetween (model : Model) (lists : List (List ℕ)) (part : ListAfter) (v front behind : ℕ)
    (between : List ℕ) : Type 0 where
  pub same : v ≡ part.vehicle
  pub vehicle : v < length lists
  pub long : length (route lists v) ≤ 1000
  pub seams : AreSeams (length (route lists v)) front behind
  pub whole : spliced (route lists v) front behind between ≡ joined lists part.pieces
  pub tour : IsTour model (spliced (route lists v) front behind between)
  pub nodes : All (λ node. node < 1000) between
  pub few : length between ≤ 1000
