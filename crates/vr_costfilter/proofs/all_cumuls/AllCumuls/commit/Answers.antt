use Rattle.std.proofs.Common.{◌∙◌, ◌<◌, ◌≤◌, ◌+◌, ℕ, List, length, ap, sym, subst, arith}
use Rattle.vr_routes.specs.Pieces.{joined, no_part, part_at}
use Rattle.vr_parts.proofs.PartLemmas.{small}
use Rattle.vr_parts.proofs.SumLemmas.{upto}
use Rattle.vr_earliest.proofs.WritingLemmas.{upto-put, upto-within}
use Rattle.vr_parts.proofs.RowLemmas.{written}
use Rattle.vr_costfilter.specs.declared.kept.KeptList.{KeptList}
use Rattle.vr_costfilter.specs.Kept.{AreAllKept, AreAsMany}
use Rattle.vr_costfilter.proofs.KeptCumulLemmas.{as-many-same, as-many-then}
use Rattle.vr_costfilter.proofs.PartLemmas.{list-after}
use Rattle.vr_costfilter.proofs.KnownLemmas.{tour-of}
use Rattle.vr_costfilter.proofs.all_cumuls.AllCumuls.commit.Goals as goal

pub join_into-requires-clause-room : goal.join_into-requires-clause-room
join_into-requires-clause-room c =
    let low = subst (λ n. c.loop-k.k < n) c.parts-k-end.ensures.value c.loop-k-test.true in
    let part = list-after c.args.closed.model.now c.args.closed.well_formed c.args.routes.now.lists
    c.args.change.now c.requires.made.makes.parts_are c.requires.valid c.loop-k.k low in
    subst (λ l. length (joined c.args.routes.now.lists l) ≤ 1000) (sym c.pieces.ensures.value) part.few

pub invariant_of-tour : goal.invariant_of-tour
invariant_of-tour c =
    let m = c.args.closed.model.now in
    let lists : List (List ℕ) = c.args.routes.now.lists in
    let parts = c.args.change.now in
    let k = c.loop-k.k in
    let low = subst (λ n. k < n) c.parts-k-end.ensures.value c.loop-k-test.true in
    let part = list-after m c.args.closed.well_formed lists parts c.requires.made.makes.parts_are c.requires.valid k low in
    let many = (small m c.args.closed.well_formed lists c.requires.before).many in
    let known = c.requires.made.makes.parts_are.each_vehicle k no_part low in
    record {
      sound = tour-of m c.vehicle.result (joined lists (part_at parts k).pieces) (omega (arith, c.vehicle.ensures, known, many))
          part c.as_slice.result.now (c.as_slice.ensures.value ∙ c.join_into.ensures ∙ ap (joined lists) c.pieces.ensures.value);
    }

pub loop-k-preserved : goal.loop-k-preserved
loop-k-preserved c =
    let i = c.loop-k.invariant.kept in
    let m = c.args.closed.model.now in
    let lists : List (List ℕ) = c.args.routes.now.lists in
    let parts = c.args.change.now in
    let k = c.loop-k.k in
    let low = subst (λ n. k < n) c.parts-k-end.ensures.value c.loop-k-test.true in
    let base : List (List ℕ) = upto lists parts k in
    let old : List (List KeptList) = c.loop-k.self-inside.dimensions.items in
    let new : List (List KeptList) = c.write_list.new.kept in
    let set = c.write_list.ensures.kept base (subst (AreAllKept m base) (sym c.deref_mut.ensures.value) i)
    (upto-within lists parts c.requires.made.makes.parts_are k low c.vehicle.ensures) in
    let next = upto-put lists parts k low c.vehicle.ensures (c.as_slice.ensures.value ∙ c.join_into.ensures ∙ ap (joined lists) c.pieces.ensures.value) in
    let as_many = as-many-then _ _ _ c.loop-k.invariant.as_many (subst (λ l. AreAsMany l new) c.deref_mut.ensures.value c.write_list.ensures.many) in
    let all =
    sym (written old new c.loop-k.self-inside.dimensions.len (set.many ∙ sym i.many) (sym c.deref_mut.ensures.len ∙ ap length c.deref_mut.ensures.value)) in
    record {
      kept = subst (AreAllKept m (upto lists parts (k + 1))) all (subst (λ l. AreAllKept m l new) next set);
      as_many = subst (AreAsMany c.args.self.now) all as_many;
    }

pub loop-k-init : goal.loop-k-init
loop-k-init c = record {
  kept = subst (AreAllKept c.args.closed.model.now c.args.routes.now.lists) (sym c.self.view_is) c.requires.kept;
  as_many = subst (λ l. AreAsMany l c.self.inside.dimensions.items) c.self.view_is (as-many-same c.self.inside.dimensions.items);
}
