use Rattle.std.proofs.Common.{◌≡◌, ◌∙◌, ◌≤◌, ℕ, List, length, ap, subst, arith}
use Rattle.std.specs.Prelude.{slice_index_or}
use Rattle.vr_model.specs.tables.WellFormed.{IsWellFormed}
use Rattle.vr_routes.specs.Pieces.{joined, part_at}
use Rattle.vr_routes.proofs.PartLemmas.{has_ends}
use Rattle.vr_parts.proofs.PartLemmas.{small}
use Rattle.vr_earliest.specs.Earlies.{IsEarly}
use Rattle.vr_earliest.specs.Kept.{KeptEarly, KeptWays}
use Rattle.vr_earliest.proofs.PartLemmas.{IsKeptAround, behind-kept, front-kept, kept-around, kept-of-all, middle-below, middle-few, rest-small, vehicle-known}
use Rattle.vr_earliest.proofs.PartLemmas.{way-small, whole-is}
use Rattle.vr_earliest.proofs.WayLemmas.{by-guide}
use Rattle.vr_earliest.proofs.earliest.Earliest.after.Goals.{After-all}
use Rattle.vr_earliest.proofs.earliest.Earliest.after.Goals as goal

pub splice-splice-requires-clause-ends : goal.splice-splice-requires-clause-ends
splice-splice-requires-clause-ends c = has_ends c.args.routes.now.lists c.args.change.now c.requires.may.parts_are c.args.k c.requires.part

pub of-guide-requires-clause-vehicle : goal.of-guide-requires-clause-vehicle
of-guide-requires-clause-vehicle c =
    let same = ap (λ (s : KeptEarly). length s.model.vehicles) c.self.view_is in
    let well = subst (λ (s : KeptEarly). IsWellFormed s.model) c.self.view_is c.self.invariant.well_formed in
    let many = (small c.args.self.now.model well c.args.routes.now.lists c.requires.may.stands.valid).many in
    let known = vehicle-known c.requires.may c.args.k c.requires.part c.splice-splice.ensures.vehicle in
    omega (arith, same, many, known)

pub index-kept-requires : goal.index-kept-requires
index-kept-requires c =
    let all = c.index-all.result.now in
    let are = c.index-all.ensures ∙ ap (λ (s : KeptEarly). slice_index_or s.kept c.args.d all) c.self.view_is in
    let many = kept-of-all c.requires.may all are in
    let same = ap (λ (l : List KeptWays). length l) c.all.view_is in
    let known = vehicle-known c.requires.may c.args.k c.requires.part c.splice-splice.ensures.vehicle in
    omega (arith, many, same, known)

-- what is kept of the list in hand, at the splice that changes it
around : (c : After-all) (one : KeptWays) → one ≡ slice_index_or c.all.inside.lists.items c.splice-splice.result.vehicle one
    → IsKeptAround c.of-guide.result c.args.routes.now.lists (part_at c.args.change.now c.args.k).pieces
    c.splice-splice.result.front c.splice-splice.result.behind c.splice-splice.result.middle.now one
around c one read =
    let g = c.of-guide.ensures in
    let all = c.index-all.result.now in
    let are = c.index-all.ensures ∙ ap (λ (s : KeptEarly). slice_index_or s.kept c.args.d all) c.self.view_is in
    let is = read ∙ ap (λ (l : List KeptWays). slice_index_or l c.splice-splice.result.vehicle one) c.all.view_is in
    let model = g.model ∙ ap (λ (s : KeptEarly). s.model) c.self.view_is in
    kept-around c.requires.may c.args.k c.requires.part c.splice-splice.ensures.vehicle c.of-guide.result all one
    model g.dimension g.vehicle are is (c.splice-splice.ensures.ends c.args.routes.now.lists c.requires.may.parts_are)

pub way-requires : goal.way-requires
way-requires c = omega (arith, front-kept (around (goal.at.way-requires c).After-all c.index-kept.result.now c.index-kept.ensures))

pub along_pieces-way-requires-clause-few : goal.along_pieces-way-requires-clause-few
along_pieces-way-requires-clause-few c =
    middle-few (around (goal.at.along_pieces-way-requires-clause-few c).After-all c.index-kept.result.now c.index-kept.ensures)
    (subst (λ l. length l ≤ 8) c.pieces-few.ensures.value c.pieces-few.ensures.few)

pub along_pieces-way-requires-clause-nodes : goal.along_pieces-way-requires-clause-nodes
along_pieces-way-requires-clause-nodes c =
    middle-below (around (goal.at.along_pieces-way-requires-clause-nodes c).After-all c.index-kept.result.now c.index-kept.ensures)

pub along_pieces-way-requires-clause-way : goal.along_pieces-way-requires-clause-way
along_pieces-way-requires-clause-way c =
    way-small (around (goal.at.along_pieces-way-requires-clause-way c).After-all c.index-kept.result.now c.index-kept.ensures) c.way.result c.way.ensures

pub rest-requires : goal.rest-requires
rest-requires c = omega (arith, behind-kept (around (goal.at.rest-requires c).After-all c.index-kept.result.now c.index-kept.ensures))

pub to_end-whole-requires-clause-rest : goal.to_end-whole-requires-clause-rest
to_end-whole-requires-clause-rest c =
    rest-small (around (goal.at.to_end-whole-requires-clause-rest c).After-all c.index-kept.result.now c.index-kept.ensures) c.rest.result c.rest.ensures

pub returns : goal.returns
returns c =
    let g = c.of-guide.ensures in
    let model = g.model ∙ ap (λ (s : KeptEarly). s.model) c.self.view_is in
    let list : List ℕ = joined c.args.routes.now.lists (part_at c.args.change.now c.args.k).pieces in
    let whole = whole-is (around (goal.at.returns c).After-all c.index-kept.result.now c.index-kept.ensures) c.way.result c.along_pieces-way.result
    c.to_end-whole.result c.rest.result c.way.ensures c.rest.ensures c.along_pieces-way.ensures.value c.to_end-whole.ensures.value in
    by-guide c.of-guide.result model g.dimension (g.vehicle ∙ c.splice-splice.ensures.vehicle)
    (λ m d v. IsEarly m d v list c.early_of.result) (c.early_of.ensures list whole)
