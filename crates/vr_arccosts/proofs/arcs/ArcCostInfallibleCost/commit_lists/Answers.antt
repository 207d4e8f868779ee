use Rattle.std.proofs.Common.{◌≡◌, ◌∙◌, ◌<◌, ◌≤◌, ◌+◌, ℕ, List, length, length-set, add-one, ap, sym, subst, arith}
use Rattle.std.specs.Prelude.{All, slice_set, IsTrue}
use Rattle.std.proofs.lemmas.List.{take_all}
use Rattle.vr_model.specs.moves.Moves.{with_route}
use Rattle.vr_model.specs.tables.Tables.{visits}
use Rattle.vr_model.specs.routes.Rules.{is_valid}
use Rattle.vr_model.specs.tables.WellFormed.{IsWellFormed}
use Rattle.vr_routes.specs.Pieces.{joined, no_part, part_at, with_parts, changed}
use Rattle.vr_routes.proofs.CommitLemmas.{as_many_lists}
use Rattle.vr_arccosts.specs.Along.{IsAlong, AreAlong, no_sums}
use Rattle.vr_parts.proofs.SumLemmas.{upto, upto-next}
use Rattle.vr_parts.proofs.RowLemmas.{rows-set}
use Rattle.vr_parts.proofs.PartLemmas.{is-part}
use Rattle.vr_arccosts.proofs.arcs.ArcCostInfallibleCost.commit_lists.Goals as goal

pub join_into-requires-clause-room : goal.join_into-requires-clause-room
join_into-requires-clause-room c =
    let model = c.args.self.now.model in
    let lists : List (List ℕ) = c.args.routes.now.lists in
    let low = subst (λ n. c.loop-k.k < n) c.parts-k-end.ensures.value c.loop-k-test.true in
    let part = is-part model c.requires.stands.well_formed lists c.args.change.now c.requires.made.makes.parts_are c.requires.valid c.loop-k.k low in
    subst (λ l. length (joined lists l) ≤ 1000) (sym c.pieces.ensures.value) part.few

pub write-requires-clause-nodes : goal.write-requires-clause-nodes
write-requires-clause-nodes c =
    let model = c.args.self.now.model in
    let lists : List (List ℕ) = c.args.routes.now.lists in
    let low = subst (λ n. c.loop-k.k < n) c.parts-k-end.ensures.value c.loop-k-test.true in
    let part = is-part model c.requires.stands.well_formed lists c.args.change.now c.requires.made.makes.parts_are c.requires.valid c.loop-k.k low in
    let list = c.as_slice.ensures.value ∙ c.join_into.ensures ∙ ap (joined lists) c.pieces.ensures.value in
    subst (λ m. All (λ node. node < m.nodes) c.as_slice.result.now) (sym c.loop-k.invariant.model)
    (subst (All (λ node. node < model.nodes)) (sym list) part.nodes)

pub loop-k-preserved : goal.loop-k-preserved
loop-k-preserved c =
    let i = c.loop-k.invariant in
    let model = c.loop-k.self-inside.model.now in
    let lists : List (List ℕ) = c.args.routes.now.lists in
    let parts = c.args.change.now in
    let k = c.loop-k.k in
    let rows = c.loop-k.self-inside.along.items in
    let low = subst (λ n. k < n) c.parts-k-end.ensures.value c.loop-k-test.true in
    let part = part_at parts k in
    let list = c.as_slice.ensures.value ∙ c.join_into.ensures ∙ ap (joined lists) c.pieces.ensures.value in
    let vehicle = c.vehicle-v.ensures in
    let known = c.requires.made.makes.parts_are.each_vehicle k no_part low in
    let many = i.many in
    let all_many = c.requires.stands.many in
    let as_many = c.requires.stands.as_many in
    let v = c.vehicle-v.result in
    let base : List (List ℕ) = upto lists parts k in
    let new = subst (λ l. IsAlong model v l c.write.new.self) list c.write.ensures in
    let set = rows-set (IsAlong model) no_sums base rows v (joined lists part.pieces)
    c.write.new.self i.along (omega (arith, vehicle, known, many, all_many, as_many)) new in
    let next : upto lists parts (k + 1) ≡ with_route base v (joined lists part.pieces) =
    ap (upto lists parts) (add-one k) ∙ upto-next lists parts k low ∙ ap (λ w. with_route base w (joined lists part.pieces)) (sym vehicle) in
    record {
      many = length-set rows v c.write.new.self ∙ many;
      model = i.model;
      along = subst (λ l. AreAlong model l (slice_set rows v c.write.new.self)) (sym next) set;
    }

pub returns-clause-stands : goal.returns-clause-stands
returns-clause-stands c =
    let i = c.loop-k.invariant in
    let h = c.requires.stands in
    let lists : List (List ℕ) = c.args.routes.now.lists in
    let parts = c.args.change.now in
    let many = c.parts-k-end.ensures.value in
    let high = c.loop-k-test.false in
    let all : upto lists parts c.loop-k.k ≡ changed lists parts = ap (λ ps. with_parts lists ps lists)
    (take_all c.loop-k.k parts (omega (arith, many, high))) in
    record {
      well_formed = subst IsWellFormed (sym i.model) h.well_formed;
      of_model = subst (λ m. c.args.routes.now.visits ≡ visits m) (sym i.model) h.of_model;
      valid = subst (λ m. IsTrue (is_valid m (changed lists parts))) (sym i.model) c.requires.valid;
      as_many = as_many_lists lists parts ∙ h.as_many ∙ ap (λ m. length m.vehicles) (sym i.model);
      many = i.many ∙ h.many ∙ ap (λ m. length m.vehicles) (sym i.model);
      along = subst (λ l. AreAlong c.loop-k.self-inside.model.now l c.loop-k.self-inside.along.items) all i.along;
    }
