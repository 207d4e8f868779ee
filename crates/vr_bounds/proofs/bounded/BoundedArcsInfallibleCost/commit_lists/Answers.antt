use Rattle.std.proofs.Common.{◌≡◌, ◌∙◌, ◌<◌, ◌≤◌, ◌+◌, ℕ, List, length, length-set, take, add-one, ap, sym, subst, arith}
use Rattle.std.specs.Prelude.{All, slice_set}
use Rattle.vr_model.specs.declared.records.Model.{Model}
use Rattle.vr_model.specs.moves.Moves.{with_route}
use Rattle.vr_model.specs.tables.WellFormed.{IsWellFormed}
use Rattle.vr_routes.specs.Pieces.{joined, no_part, part_at}
use Rattle.vr_routes.proofs.CommitLemmas.{as_many_lists}
use Rattle.vr_parts.proofs.PartLemmas.{is-part}
use Rattle.vr_parts.proofs.RowLemmas.{rows-set}
use Rattle.vr_parts.proofs.SumLemmas.{upto, upto-next}
use Rattle.vr_bounds.specs.Kept.{no_puts, AreAllPuts, ArePuts, IsPutsOf}
use Rattle.vr_bounds.proofs.KeptLemmas.{puts-at}
use Rattle.vr_bounds.proofs.bounded.BoundedArcsInfallibleCost.commit_lists.Goals as goal

pub join_into-requires-clause-room : goal.join_into-requires-clause-room
join_into-requires-clause-room c =
    let model : Model = c.args.self.now.model in
    let lists : List (List ℕ) = c.args.routes.now.lists in
    let low = subst (λ n. c.loop-k.k < n) c.parts-k-end.ensures.value c.loop-k-test.true in
    let well = subst IsWellFormed c.requires.stands.arcs_model c.requires.stands.arcs.well_formed in
    let part = is-part model well lists c.args.change.now c.requires.made.makes.parts_are c.requires.valid c.loop-k.k low in
    subst (λ l. length (joined lists l) ≤ 1000) (sym c.pieces.ensures.value) part.few

pub follow-requires-clause-puts : goal.follow-requires-clause-puts
follow-requires-clause-puts c =
    let lists : List (List ℕ) = c.args.routes.now.lists in
    let parts = c.args.change.now in
    let k = c.loop-k.k in
    let i = c.loop-k.invariant in
    let low = subst (λ n. k < n) c.parts-k-end.ensures.value c.loop-k-test.true in
    let known = c.requires.made.makes.parts_are.each_vehicle k no_part low in
    let vehicle = c.vehicle-vehicle.ensures in
    let many = i.many in
    let all_many = c.requires.stands.many in
    let as_many = as_many_lists lists (take k parts) in
    let here = puts-at c.loop-k.self-inside.model.now (upto lists parts k) c.loop-k.self-inside.puts.items c.vehicle-vehicle.result c.index_mut.result.now
    i.puts (many ∙ all_many ∙ sym as_many) (omega (arith, known, vehicle, as_many)) c.index_mut.ensures.value in
    subst (λ (m : Model). ArePuts m c.vehicle-vehicle.result c.index_mut.result.now) (i.model ∙ sym (ap (λ k. k.model) c.self.view_is)) here.kept

pub follow-requires-clause-nodes : goal.follow-requires-clause-nodes
follow-requires-clause-nodes c =
    let model : Model = c.args.self.now.model in
    let lists : List (List ℕ) = c.args.routes.now.lists in
    let low = subst (λ n. c.loop-k.k < n) c.parts-k-end.ensures.value c.loop-k-test.true in
    let well = subst IsWellFormed c.requires.stands.arcs_model c.requires.stands.arcs.well_formed in
    let part = is-part model well lists c.args.change.now c.requires.made.makes.parts_are c.requires.valid c.loop-k.k low in
    let list = c.join_into.ensures ∙ ap (joined lists) c.pieces.ensures.value in
    subst (λ (m : Model). All (λ node. node < m.nodes) c.join_into.new.row)
    (sym (ap (λ k. k.model) c.self.view_is)) (subst (All (λ node. node < model.nodes)) (sym list) part.nodes)

pub loop-k-preserved : goal.loop-k-preserved
loop-k-preserved c =
    let i = c.loop-k.invariant in
    let model : Model = c.loop-k.self-inside.model.now in
    let lists : List (List ℕ) = c.args.routes.now.lists in
    let parts = c.args.change.now in
    let k = c.loop-k.k in
    let rows = c.loop-k.self-inside.puts.items in
    let low = subst (λ n. k < n) c.parts-k-end.ensures.value c.loop-k-test.true in
    let part = part_at parts k in
    let list = c.join_into.ensures ∙ ap (joined lists) c.pieces.ensures.value in
    let vehicle = c.vehicle-vehicle.ensures in
    let known = c.requires.made.makes.parts_are.each_vehicle k no_part low in
    let many = i.many in
    let all_many = c.requires.stands.many in
    let v = c.vehicle-vehicle.result in
    let base : List (List ℕ) = upto lists parts k in
    let new : IsPutsOf model v (joined lists part.pieces) c.follow.new.self = record {
      row = c.follow.ensures.row ∙ list;
      kept = subst (λ (m : Model). ArePuts m v c.follow.new.self) (ap (λ k. k.model) c.self.view_is ∙ sym i.model) c.follow.ensures.puts;
    } in
    let set = rows-set (IsPutsOf model) no_puts base rows v (joined lists part.pieces)
    c.follow.new.self i.puts (omega (arith, vehicle, known, many, all_many)) new in
    let next : upto lists parts (k + 1) ≡ with_route base v (joined lists part.pieces) =
    ap (upto lists parts) (add-one k) ∙ upto-next lists parts k low ∙ ap (λ w. with_route base w (joined lists part.pieces)) (sym vehicle) in
    record {
      many = length-set rows v c.follow.new.self ∙ many;
      model = i.model;
      arcs = i.arcs;
      puts = subst (λ l. AreAllPuts model l (slice_set rows v c.follow.new.self)) (sym next) set;
    }
