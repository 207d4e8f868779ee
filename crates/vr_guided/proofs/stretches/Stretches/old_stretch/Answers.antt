use Rattle.std.proofs.Common.{◌∙◌, refl, sym, subst, arith}
use Rattle.std.specs.Prelude.{ℤ, pos, ◌≤ℤ◌, ◌*◌, ◌^◌}
use Rattle.vr_guided.proofs.KeptLemmas.{kept_stretch, forward_long}
use Rattle.vr_guided.proofs.ListLemmas.{list_short}
use Rattle.vr_guided.proofs.stretches.Stretches.old_stretch.Goals as goal

pub between-requires-clause-place : goal.between-requires-clause-place
between-requires-clause-place c =
    omega (arith, forward_long c.args.self.now.sums c.args.self.now.arcs.vehicle c.args.self.now.arcs.there c.of-sums.ensures, c.requires.place)

pub between-requires-clause-few : goal.between-requires-clause-few
between-requires-clause-few c =
    let here = c.args.self.now in
    let model = here.arcs.weights.closed in
    omega (arith, list_short model.model.now here.routes.now.lists here.valid model.well_formed here.arcs.vehicle refl, c.requires.place)

pub returns-clause-low : goal.returns-clause-low
returns-clause-low c =
    let here = c.args.self.now in
    let v = here.arcs.vehicle in
    let old = kept_stretch here.sums v here.arcs.there c.of-sums.ensures here.arcs.weights.closed.well_formed
    here.arcs.weights.few here.valid c.args.front c.args.behind c.requires.order c.requires.place (c.between.ensures _ _ _ _) in
    subst (λ (total : ℤ). pos 0 ≤ℤ total) (sym old.read) old.range.at_least

pub returns-clause-high : goal.returns-clause-high
returns-clause-high c =
    let here = c.args.self.now in
    let v = here.arcs.vehicle in
    let old = kept_stretch here.sums v here.arcs.there c.of-sums.ensures here.arcs.weights.closed.well_formed
    here.arcs.weights.few here.valid c.args.front c.args.behind c.requires.order c.requires.place (c.between.ensures _ _ _ _) in
    subst (λ (total : ℤ). total ≤ℤ pos (1001 * 2 ^ 70)) (sym old.read) old.range.at_most

pub returns-clause-total : goal.returns-clause-total
returns-clause-total c next others first =
    let here = c.args.self.now in
    let v = here.arcs.vehicle in
    let old = kept_stretch here.sums v here.arcs.there c.of-sums.ensures here.arcs.weights.closed.well_formed
    here.arcs.weights.few here.valid c.args.front c.args.behind c.requires.order c.requires.place (c.between.ensures _ _ _ _) in
    old.read ∙ old.value next others first
