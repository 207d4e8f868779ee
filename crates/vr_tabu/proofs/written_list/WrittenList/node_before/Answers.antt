use Rattle.std.proofs.Common.{◌≡◌, ◌∙◌, ap, sym, false, length}
use Rattle.std.specs.Prelude.{◌==◌, ◌&&◌, nat_lt, slice_index}
use Rattle.vr_tabu.specs.Changed.{node_just_before}
use Rattle.vr_tabu.proofs.PlaceLemmas.{not_kept}
use Rattle.vr_tabu.proofs.written_list.WrittenList.node_before.Goals as goal

pub returns : goal.returns
returns c =
    let row = c.self.inside.row in
    let list = c.as_slice-list.ensures.value in
    let kept = c.place_in-place.ensures in
    let visit = c.args.visit in
    let absent : (nat_lt (slice_index c.self.inside.places visit) (length row) && (slice_index row (slice_index c.self.inside.places visit) == visit)) ≡ false
    = ap (λ place. nat_lt place (length row) && (slice_index row place == visit)) (sym kept)
    ∙ (ap (λ xs. nat_lt c.place_in-place.result (length xs) && (slice_index xs c.place_in-place.result == visit)) (sym list)
    ∙ (sym c.is_at.ensures ∙ c.if-is_at.false)) in
    not_kept c.args.origin row c.self.inside.places visit c.self.invariant absent ∙ ap (λ xs. node_just_before c.args.origin xs visit) c.self.view_is
