use Rattle.std.proofs.Common.{◌≡◌, ◌∙◌, ◌+ℤ◌, ap, ap₂, arith, of_z, pos, sym, to_z, w64}
use Rattle.std.specs.Prelude.{int_le}
use Rattle.std.proofs.lemmas.Int.{ints}
use Rattle.vr_model.specs.tables.Numbers.{number_at, total_by}
use Rattle.vr_model.specs.tables.Tables.{dimension_at, no_dimension}
use Rattle.vr_loads.specs.Loads.{load_of, taken}
use Rattle.vr_loads.proofs.LoadLines.{capacity_in_range}
use Rattle.vr_rules.specs.Placing.{item_nodes}
use Rattle.vr_ruin.proofs.carrying.carries.Goals as goal

pub returns : goal.returns
returns c =
    let model = c.args.list.now.closed.model.now in
    let d = c.args.d in
    let v = c.args.list.now.vehicle in
    let r = capacity_in_range model d c.requires.load v c.args.list.now.there in
    let a = c.kept_load.ensures in
    let b = c.taken_by.ensures in
    let same : c.get-capacity.result.now ≡ number_at (dimension_at model d).capacities v =
    sym (c.get-capacity.ensures.value (pos 0)) ∙ ap (λ x. number_at x.capacities v) (sym (c.get-dimension.ensures.value no_dimension)) in
    let capacity : to_z w64 (of_z w64 c.get-capacity.result.now) ≡ number_at (dimension_at model d).capacities v =
    omega (arith, ints, r.at_least, r.at_most, same) in
    let load : to_z w64 (of_z w64 (to_z w64 (of_z w64 c.kept_load.result) +ℤ to_z w64 (of_z w64 c.taken_by.result)))
    ≡ load_of model d v c.args.list.now.nodes.now +ℤ total_by (taken model d v) (item_nodes c.args.item) =
    omega (arith, ints, a.value, b.value, a.range.low, a.range.high, b.range.low, b.range.high) in
    ap₂ int_le load capacity
