-- Lists after a change as splices of the lists before it.
use Rattle.std.proofs.Common.{◌≡◌, ◌∙◌, ◌+◌, ◌-◌, ◌<◌, ◌≤◌, ◌++◌, ℕ, List, length, length-append, take, drop, ap, sym, subst, arith}
use Rattle.std.proofs.lemmas.List.{length-drop, length-take-le}
use Rattle.vr_model.specs.routes.Routes.{route}
use Rattle.vr_routes.specs.declared.pieces.Piece.{Piece}
use Rattle.vr_routes.specs.Pieces.{ListAfter, IsSplice, joined}
use Rattle.vr_parts.specs.Splices.{spliced, MayBeSpliced}

-- how many nodes a list has after a splice
pub spliced_length : (lists : List (List ℕ)) (v front behind : ℕ) (middle : List Piece) → front ≤ behind → behind ≤ length (route lists v)
    → length (spliced lists v front behind middle) ≡ front + length (joined lists middle) + (length (route lists v) - behind)
spliced_length lists v front behind middle order high =
    let list : List ℕ = route lists v in
    let nodes : List ℕ = joined lists middle in
    let whole = length-append (take front list) (nodes ++ drop behind list) in
    let back = length-append nodes (drop behind list) in
    let kept = length-take-le front list (omega (arith, order, high)) in
    let end = length-drop behind list in
    omega (arith, whole, back, kept, end)

-- the list of a part of a change is a splice of the list of its vehicle
module _ {lists : List (List ℕ)} {v front behind : ℕ} {middle : List Piece} (part : ListAfter) (same : v ≡ part.vehicle)
    (splice : IsSplice lists part.vehicle part.pieces front behind middle) where
  pub spliced_is : joined lists part.pieces ≡ spliced lists v front behind middle
  spliced_is = splice.joins ∙ ap (λ w. spliced lists w front behind middle) (sym same)

  pub may_be_spliced : part.vehicle < length lists → length part.pieces ≤ 8 → MayBeSpliced lists v front behind middle
  may_be_spliced known short = subst (λ w. MayBeSpliced lists w front behind middle) (sym same) (record {
    vehicle = known;
    order = splice.order;
    high = splice.high;
    within = splice.within;
    few = (let less = splice.few in omega (arith, less, short));
  })
