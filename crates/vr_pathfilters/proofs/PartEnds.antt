-- The list of a part of a change, as what it keeps of the list before at its ends and the nodes between.
use Rattle.std.proofs.Common.{◌≡◌, ◌∙◌, ◌≤◌, ◌<◌, ◌++◌, ℕ, List, length, take, drop, ap, sym, subst, arith}
use Rattle.std.specs.Prelude.{IsTrue, All}
use Rattle.std.specs.List.{list_all}
use Rattle.std.proofs.lemmas.List.Folds.{list_all-append}
use Rattle.vr_model.specs.deciding.Testing.{and_left, and_right}
use Rattle.vr_model.specs.tables.Tables.{is_visit}
use Rattle.vr_model.specs.tables.WellFormed.{IsWellFormed}
use Rattle.vr_model.specs.routes.Routes.{route}
use Rattle.vr_model.specs.declared.records.Model.{Model}
use Rattle.vr_lists.proofs.VisitLists.{visits-below, visits-few}
use Rattle.vr_routes.specs.Tours.{Tours}
use Rattle.vr_routes.specs.Changes.{IsMadeOn, AreParts}
use Rattle.vr_routes.specs.declared.pieces.Piece.{Piece}
use Rattle.vr_routes.specs.Pieces.{ListAfter, IsSplice, IsWithin, joined, no_part, part_at}
use Rattle.vr_reach.specs.Spliced.{AreSeams, spliced}
use Rattle.vr_reach.specs.Lists.{IsTour}
use Rattle.vr_reach.proofs.Splicing.{long}
use Rattle.vr_pathfilters.specs.Parts.{IsPartBetween}
use Rattle.vr_pathfilters.specs.TourLists.{AreTours}
use Rattle.vr_pathfilters.proofs.PartTours.{tour_of, tour_of_part}

module _ {lists : List (List ℕ)} {parts : List ListAfter} (are : AreParts lists parts) (k : ℕ) (low : k < length parts) where
  -- a part is of a vehicle that has a list
  pub part_vehicle : {v : ℕ} → v ≡ (part_at parts k).vehicle → v < length lists
  part_vehicle is = subst (λ w. w < length lists) (sym is) (are.each_vehicle k no_part low)

  -- and its pieces lie within the lists
  pub part_within : {pieces : List Piece} → pieces ≡ (part_at parts k).pieces → All (IsWithin lists) pieces
  part_within is = subst (All (IsWithin lists)) (sym is) (are.each_within k no_part low)

pub part_between : {model : Model} {tours : Tours} {parts : List ListAfter} {v front behind : ℕ} {middle : List Piece} {between : List ℕ}
    → IsWellFormed model → AreTours model tours → IsMadeOn tours parts → (k : ℕ) → k < length parts → v ≡ (part_at parts k).vehicle
    → IsSplice tours.lists (part_at parts k).vehicle (part_at parts k).pieces front behind middle
    → between ≡ joined tours.lists middle → IsPartBetween model tours.lists (part_at parts k) v front behind between
part_between {model} {tours} {parts} {v} {front} {behind} {middle} {between} well_formed are made k low same splice is = record {
  same = same;
  vehicle = part_vehicle made.makes.parts_are k low same;
  long =
      let before = tour_of model tours are v (part_vehicle made.makes.parts_are k low same) in
      let few = visits-few model list before.visits before.distinct in
      omega (arith, few, number);
  seams = seams;
  whole = whole;
  tour = tour;
  nodes = λ i d inside. let h = visits-below model between visits_between i d inside in omega (arith, h, number);
  few =
      let few = visits-few model (spliced list front behind between) tour.visits tour.distinct in
      let n = long list between front behind seams in
      omega (arith, few, n, number);
}
  where
    list : List ℕ
    list = route tours.lists v

    ends : IsSplice tours.lists v (part_at parts k).pieces front behind middle
    ends = subst (λ w. IsSplice tours.lists w (part_at parts k).pieces front behind middle) (sym same) splice

    seams : AreSeams (length list) front behind
    seams = record { order = ends.order; high = ends.high }

    whole : spliced list front behind between ≡ joined tours.lists (part_at parts k).pieces
    whole = ap (spliced list front behind) is ∙ sym ends.joins

    tour : IsTour model (spliced list front behind between)
    tour = subst (IsTour model) (sym whole) (tour_of_part model tours are parts made k low)

    number : model.nodes ≤ 1000
    number = well_formed.number_of_nodes.1

    visits_between : IsTrue (list_all (is_visit model) between)
    visits_between =
        let rest = and_right (list_all (is_visit model) (take front list)) (list_all (is_visit model) (between ++ drop behind list))
        (sym (list_all-append (is_visit model) (take front list) (between ++ drop behind list)) ∙ tour.visits) in
        and_left (list_all (is_visit model) between) (list_all (is_visit model) (drop behind list))
        (sym (list_all-append (is_visit model) between (drop behind list)) ∙ rest)

-- the same of a row as a slice
pub part_seen : {model : Model} {lists : List (List ℕ)} {part : ListAfter} {v front behind : ℕ} {between seen : List ℕ}
    → IsPartBetween model lists part v front behind between → seen ≡ between → IsPartBetween model lists part v front behind seen
part_seen {model} {lists} {part} {v} {front} {behind} is same = subst (IsPartBetween model lists part v front behind) (sym same) is
