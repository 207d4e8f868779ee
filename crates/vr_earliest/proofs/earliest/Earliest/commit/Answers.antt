use Rattle.std.proofs.Common.{◌∙◌, ◌<◌, ◌≤◌, ◌+◌, ℕ, List, length, ap, sym, subst, arith}
use Rattle.std.specs.Prelude.{All}
use Rattle.vr_model.specs.tables.WellFormed.{IsWellFormed}
use Rattle.vr_routes.specs.Pieces.{joined, no_part}
use Rattle.vr_earliest.specs.Kept.{KeptWays}
use Rattle.vr_earliest.specs.Kept.{HaveAllWays}
use Rattle.vr_parts.proofs.PartLemmas.{is-part, small}
use Rattle.vr_parts.proofs.SumLemmas.{upto}
use Rattle.vr_earliest.proofs.WritingLemmas.{upto-put, upto-within}
use Rattle.vr_parts.proofs.RowLemmas.{written}
use Rattle.vr_earliest.proofs.earliest.Earliest.commit.Goals as goal

pub join_into-requires-clause-room : goal.join_into-requires-clause-room
join_into-requires-clause-room c =
    let low = subst (λ n. c.loop-k.k < n) c.parts-k-end.ensures.value c.loop-k-test.true in
    let well = subst IsWellFormed (ap (λ s. s.model) c.self.view_is) c.self.invariant.well_formed in
    let part = is-part c.args.self.now.model well c.args.routes.now.lists c.args.change.now c.requires.made.makes.parts_are c.requires.valid c.loop-k.k low in
    subst (λ l. length (joined c.args.routes.now.lists l) ≤ 1000) (sym c.pieces.ensures.value) part.few

pub write_list-requires-clause-vehicle : goal.write_list-requires-clause-vehicle
write_list-requires-clause-vehicle c =
    let low = subst (λ n. c.loop-k.k < n) c.parts-k-end.ensures.value c.loop-k-test.true in
    let well = subst IsWellFormed (ap (λ s. s.model) c.self.view_is) c.self.invariant.well_formed in
    let many = (small c.args.self.now.model well c.args.routes.now.lists c.requires.stands.valid).many in
    let known = c.requires.made.makes.parts_are.each_vehicle c.loop-k.k no_part low in
    subst (λ m. c.vehicle.result < length m.vehicles) (sym c.loop-k.invariant.model) (omega (arith, c.vehicle.ensures, known, many))

pub write_list-requires-clause-nodes : goal.write_list-requires-clause-nodes
write_list-requires-clause-nodes c =
    let lists : List (List ℕ) = c.args.routes.now.lists in
    let low = subst (λ n. c.loop-k.k < n) c.parts-k-end.ensures.value c.loop-k-test.true in
    let well = subst IsWellFormed (ap (λ s. s.model) c.self.view_is) c.self.invariant.well_formed in
    let part = is-part c.args.self.now.model well lists c.args.change.now c.requires.made.makes.parts_are c.requires.valid c.loop-k.k low in
    let list = c.as_slice.ensures.value ∙ c.join_into.ensures ∙ ap (joined lists) c.pieces.ensures.value in
    subst (λ m. All (λ node. node < m.nodes) c.as_slice.result.now) (sym c.loop-k.invariant.model)
    (subst (All (λ node. node < c.args.self.now.model.nodes)) (sym list) part.nodes)

pub loop-k-preserved : goal.loop-k-preserved
loop-k-preserved c =
    let i = c.loop-k.invariant in
    let m = c.loop-k.self-inside.model.now in
    let lists : List (List ℕ) = c.args.routes.now.lists in
    let parts = c.args.change.now in
    let k = c.loop-k.k in
    let low = subst (λ n. k < n) c.parts-k-end.ensures.value c.loop-k-test.true in
    let base : List (List ℕ) = upto lists parts k in
    let old : List (List KeptWays) = c.loop-k.self-inside.kept.items in
    let new : List (List KeptWays) = c.write_list.new.kept in
    let set = c.write_list.ensures base (subst (HaveAllWays m base) (sym c.deref_mut.ensures.value) i.kept)
    (upto-within lists parts c.requires.made.makes.parts_are k low c.vehicle.ensures) in
    let next = upto-put lists parts k low c.vehicle.ensures (c.as_slice.ensures.value ∙ c.join_into.ensures ∙ ap (joined lists) c.pieces.ensures.value) in
    record {
      model = i.model;
      floors = i.floors;
      kept = subst (HaveAllWays m (upto lists parts (k + 1)))
          (sym (written old new c.loop-k.self-inside.kept.len (set.many ∙ sym i.kept.many) (sym c.deref_mut.ensures.len ∙ ap length c.deref_mut.ensures.value)))
          (subst (λ l. HaveAllWays m l new) next set);
    }
