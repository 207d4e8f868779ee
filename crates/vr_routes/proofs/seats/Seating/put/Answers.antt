use Rattle.std.proofs.Common.{◌≡◌, ◌<◌, ◌++◌, ◌∷◌, [], ℕ, false, length, sym, subst, ap, ◌∙◌, arith}
use Rattle.std.proofs.lemmas.List.{get_or_default}
use Rattle.vr_model.specs.routes.Routes.{route, is_active}
use Rattle.vr_routes.specs.Seats.{Seated}
use Rattle.vr_routes.proofs.SeatLemmas.{row_has_room, put_seated}
use Rattle.vr_routes.proofs.seats.Seating.put.Goals as goal

-- what is asked of the lists as they are seen holds of them as they are kept
may_put : {inside seen : Seated} → inside ≡ seen → (v node : ℕ) → v < length seen.lists → node < seen.nodes → is_active seen.lists node ≡ false
    → (v < length inside.lists) × (node < inside.nodes) × (is_active inside.lists node ≡ false)
may_put is v node low within inactive = (
  subst (λ (s : Seated). v < length s.lists) (sym is) low,
  subst (λ (s : Seated). node < s.nodes) (sym is) within,
  subst (λ (s : Seated). is_active s.lists node ≡ false) (sym is) inactive,
)

pub push-requires : goal.push-requires
push-requires c =
    let rows = c.self.inside.rows.items in
    let may = may_put c.self.view_is c.args.v c.args.node c.requires.vehicle c.requires.node c.requires.inactive in
    let room = row_has_room rows c.self.inside.seats.items c.self.invariant c.args.v c.args.node may.0 may.1 may.2 in
    let row : length c.index_mut-row.result.now ≡ length (route rows c.args.v) = ap length
    (c.index_mut-row.ensures.value ∙ get_or_default rows c.args.v c.index_mut-row.result.now [] may.0) in
    omega (arith, row, room, c.self.invariant.few_nodes)

pub invariant_of-self : goal.invariant_of-self
invariant_of-self c =
    let rows = c.self.inside.rows.items in
    let may = may_put c.self.view_is c.args.v c.args.node c.requires.vehicle c.requires.node c.requires.inactive in
    let row : c.index_mut-row.result.now ≡ route rows c.args.v = c.index_mut-row.ensures.value
    ∙ get_or_default rows c.args.v c.index_mut-row.result.now [] may.0 in
    put_seated rows c.self.inside.seats.items c.self.invariant c.args.v c.args.node may.0 may.1 may.2 c.push.new.self
    (c.push.ensures ∙ ap (λ l. l ++ c.args.node ∷ []) row) c.len-place.result (c.len-place.ensures.value ∙ ap length row)
