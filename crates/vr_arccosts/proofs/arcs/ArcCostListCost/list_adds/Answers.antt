use Rattle.std.proofs.Common.{◌≡◌, ◌<◌, ◌++◌, ℕ, List, take, drop, arith}
use Rattle.std.proofs.lemmas.Int.{ints}
use Rattle.vr_model.specs.routes.Routes.{route}
use Rattle.vr_routes.specs.Pieces.{joined}
use Rattle.vr_routes.proofs.JoinedPieces.{all_left, all_right}
use Rattle.vr_parts.specs.Splices.{spliced}
use Rattle.vr_arccosts.specs.ArcMoves.{costs_more}
use Rattle.vr_arccosts.proofs.MoveLemmas.{pieces-known}
use Rattle.vr_arccosts.proofs.arcs.ArcCostListCost.list_adds.Goals as goal

pub between_adds-requires-clause-known : goal.between_adds-requires-clause-known
between_adds-requires-clause-known c =
    let lists : List (List ℕ) = c.args.routes.now.lists in
    let s = c.args.splice in
    let list : List ℕ = route lists s.vehicle in
    let Below : ℕ → Type 0 = λ node. node < c.args.self.now.model.nodes in
    let middle : List ℕ = joined lists s.middle.now in
    pieces-known c.args.self.now.model lists s.middle.now c.requires.splice.within
    (all_left Below middle (drop s.behind list) (all_right Below (take s.front list) (middle ++ drop s.behind list) c.requires.nodes))

pub returns-clause-value : goal.returns-clause-value
returns-clause-value c =
    let model = c.args.self.now.model in
    let lists : List (List ℕ) = c.args.routes.now.lists in
    let s = c.args.splice in
    let b = c.between_adds.ensures in
    let whole : c.between_adds.result ≡ costs_more model lists s.vehicle (spliced lists s.vehicle s.front s.behind s.middle.now) = b.value in
    omega (arith, ints, b.range.low, b.range.high, whole)
