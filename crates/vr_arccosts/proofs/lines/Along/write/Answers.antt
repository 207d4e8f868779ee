use Rattle.std.proofs.Common.{◌≡◌, ◌∙◌, ◌+◌, ◌-◌, ◌<◌, refl, length, ap, sym, subst, arith}
use Rattle.std.specs.Prelude.{slice_index_or}
use Rattle.vr_model.specs.tables.Tables.{vehicle_at, no_vehicle}
use Rattle.vr_balance.proofs.Paths.{sums-one}
use Rattle.vr_arccosts.specs.Along.{IsAlongTo}
use Rattle.vr_balance.specs.Sums.{line_nodes}
use Rattle.vr_arccosts.proofs.LineLemmas.{arc-inside, arc-last, line-long}
use Rattle.vr_arccosts.proofs.PathLemmas.{last-kept, start-below}
use Rattle.vr_arccosts.proofs.lines.Along.write.Goals as goal

pub loop-k-init : goal.loop-k-init
loop-k-init c =
    let m = c.args.model.now in
    let start = ap (λ x. x.start) (c.get-vehicle.ensures.value no_vehicle) in
    record {
      sums = record { ahead = sums-one _ _ _ c.restart.new.self c.restart.ensures; behind = sums-one _ _ _ c.restart-2.new.self c.restart-2.ensures };
      at = sym start;
      known = subst (λ x. x < m.nodes) start (start-below m c.requires.well_formed c.args.v c.requires.vehicle);
    }

pub loop-k-preserved : goal.loop-k-preserved
loop-k-preserved c =
    let m = c.args.model.now in
    let list = c.args.list.now in
    let k = c.loop-k.k in
    let low = c.loop-k-test.true in
    let i = c.loop-k.invariant in
    let start = (vehicle_at m c.args.v).start in
    let e : k + 1 - 1 ≡ k = omega arith in
    let last = last-kept start list (k + 1) (omega arith) (omega (arith, low)) ∙ ap (λ n. slice_index_or list n 0) e in
    record {
      sums = c.step.ensures list k i.sums (arc-inside m c.args.v list k _ _ low i.at refl);
      at = sym last;
      known = c.requires.nodes k 0 low;
    }

pub returns : goal.returns
returns c =
    let m = c.args.model.now in
    let list = c.args.list.now in
    let k = c.loop-k.k in
    let high = c.loop-k-test.false in
    let low = c.loop-k.auto.k-end in
    let i = c.loop-k.invariant in
    let all : k ≡ length list = omega (arith, high, low) in
    let long = line-long m c.args.v list in
    subst (λ n. IsAlongTo m c.args.v list n c.step-2.new.self) (let e : k + 1 ≡ length (line_nodes m c.args.v list) = omega (arith, all, long) in e)
    (c.step-2.ensures list k i.sums (arc-last m c.args.v list k _ _ all i.at (sym (ap (λ x. x.end) (c.get-vehicle.ensures.value no_vehicle)))))
