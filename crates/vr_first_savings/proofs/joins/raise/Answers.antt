use Rattle.std.proofs.Common.{◌≡◌, ◌∙◌, ℕ, ◌^◌, pos, arith, ap, sym, subst, to_z, of_z, w64, length}
use Rattle.std.specs.Prelude.{◌+ℤ◌, ◌-ℤ◌, ◌≤ℤ◌}
use Rattle.std.proofs.lemmas.Int.{ints}
use Rattle.vr_model.specs.tables.Tables.{arc_cost}
use Rattle.vr_model.specs.routes.Routes.{route}
use Rattle.vr_model.specs.first.Items.{first_node}
use Rattle.vr_model.specs.first.SavingsJoins.{saving}
use Rattle.vr_first_savings.specs.Bounds.{both}
use Rattle.vr_first_savings.specs.RouteEnds.{AreRouteEnds}
use Rattle.vr_first_savings.proofs.EndLemmas.{are_ends}
use Rattle.vr_first_savings.specs.declared.ends.EndsOfRoute.{EndsOfRoute}
use Rattle.vr_first_savings.proofs.JoinLemmas.{first-below}
use Rattle.vr_first_savings.proofs.BoundLemmas.{raised-none, raised-more, raised-all}
use Rattle.vr_first_savings.proofs.joins.raise.Goals as goal

pub loop-i-init : goal.loop-i-init
loop-i-init c = raised-none c.args.closed.model.now c.args.routes.now c.args.bounds.now

pub loop-i-preserved : goal.loop-i-preserved
loop-i-preserved c =
    let model = c.args.closed.model.now in
    let routes = c.args.routes.now in
    let i = c.loop-i.i in
    let m = c.loop-i.invariant in
    let front = c.ends_at-front.ensures in
    let joined = c.ends_at-joined.ensures in
    let first : c.ends_at-front.result.first ≡ first_node (route routes i) = ap (λ (e : EndsOfRoute). e.first) front in
    let under = first-below model routes i c.requires.apart c.loop-i-test.true in
    let number = m.number in
    let many = c.requires.number in
    let fits : to_z w64 (of_z w64 c.saved.result) ≡ c.saved.result = omega (arith, ints, c.saved.ensures.low, c.saved.ensures.high) in
    let value : c.saved.result ≡ saving model (both (route routes i) (route routes 0)) = c.saved.ensures.value
    ∙ (λ t. ((front t).to_end +ℤ (joined t).from_start) -ℤ arc_cost model 0 (front t).last (joined t).first) in
    raised-more model routes c.args.bounds.now c.loop-i.bounds c.raise_to.new.bounds i c.ends_at-front.result.first
    (to_z w64 (of_z w64 c.saved.result)) m (omega (arith, first, under, number, many)) c.raise_to.ensures first (omega (arith, ints, fits, value))

pub saved-requires-clause-front : goal.saved-requires-clause-front
saved-requires-clause-front c =
    let model = c.args.closed.model.now in
    subst (AreRouteEnds model) (sym c.ends_at-front.ensures)
    (are_ends model c.args.routes.now c.loop-i.i c.args.closed.well_formed c.requires.apart c.loop-i-test.true)

pub saved-requires-clause-back : goal.saved-requires-clause-back
saved-requires-clause-back c =
    let model = c.args.closed.model.now in
    subst (AreRouteEnds model) (sym c.ends_at-joined.ensures) (are_ends model c.args.routes.now 0 c.args.closed.well_formed c.requires.apart c.requires.some)

pub raise_to-requires : goal.raise_to-requires
raise_to-requires c =
    let model = c.args.closed.model.now in
    let first = ap (λ (e : EndsOfRoute). e.first) c.ends_at-front.ensures in
    let under = first-below model c.args.routes.now c.loop-i.i c.requires.apart c.loop-i-test.true in
    omega (arith, first, under, c.loop-i.invariant.number, c.requires.number)

pub raise_to-requires-2 : goal.raise_to-requires-2
raise_to-requires-2 c =
    let model = c.args.closed.model.now in
    let first = ap (λ (e : EndsOfRoute). e.first) c.ends_at-joined.ensures in
    let under = first-below model c.args.routes.now 0 c.requires.apart c.requires.some in
    omega (arith, first, under, c.loop-i.invariant.number, c.requires.number)

pub returns : goal.returns
returns c =
    let model = c.args.closed.model.now in
    let routes = c.args.routes.now in
    let first : c.ends_at-joined.result.first ≡ first_node (route routes 0) = ap (λ (e : EndsOfRoute). e.first) c.ends_at-joined.ensures in
    let under = first-below model routes 0 c.requires.apart c.requires.some in
    let number = c.loop-i.invariant.number in
    let many = c.requires.number in
    raised-all model routes c.args.bounds.now c.loop-i.bounds c.raise_to-2.new.bounds c.loop-i.i c.ends_at-joined.result.first (pos (2 ^ 41))
    c.loop-i.invariant (omega (arith, first, under, number, many)) c.raise_to-2.ensures (omega arith) first (omega (arith, ints))
