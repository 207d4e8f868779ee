use Rattle.std.proofs.Common.{◌≡◌, false, get_or, take, subst, sym, arith}
use Rattle.std.specs.Prelude.{IfOk}
use Rattle.std.specs.List.{AllZip}
use Rattle.std.proofs.lemmas.List.{take_all, take_more}
use Rattle.std.proofs.lemmas.List.Elements.{All-push}
use Rattle.vr_steps.specs.Levels.{HasNumbers, IsCumuls}
use Rattle.vr_steps.proofs.LineLemmas.{all_zip_push}
use Rattle.vr_reach.specs.VehicleStops.{line_of}
use Rattle.vr_reach.proofs.LineParts.{stops_of_line}
use Rattle.vr_reach.proofs.lines.write_sets.Goals as goal

pub loop-k-preserved : goal.loop-k-preserved
loop-k-preserved c =
    let of = c.args.stops.now.of in
    let k = c.loop-k.k in
    let n = stops_of_line of.closed.model.now of.d of.v of.list.now in
    let allowed = (line_of of).allowed in
    let here = c.set_at.ensures in
    let same = subst (λ r. IfOk r (λ set. set ≡ c.set_at.result.now)) c.in-Ok.is c.copy.ensures in
    record {
      exact = rw (c.in_ok-push.ensures.ok, take_more allowed k (λ _. false) (omega (arith, n, c.loop-k-test.true, c.len-n.ensures.value)))
          (all_zip_push HasNumbers (take k allowed) c.loop-k.sets (get_or allowed k (λ _. false)) c.in-Ok.set
          c.loop-k.invariant.exact (subst (HasNumbers (get_or allowed k (λ _. false))) (sym same) here.exact));
      cumuls = rw c.in_ok-push.ensures.ok (All-push IsCumuls _ _ c.loop-k.invariant.cumuls (subst IsCumuls (sym same) here.cumuls));
    }

pub returns-clause-exact : goal.returns-clause-exact
returns-clause-exact c =
    let of = c.args.stops.now.of in
    let n = stops_of_line of.closed.model.now of.d of.v of.list.now in
    subst (λ xs. AllZip HasNumbers xs c.loop-k.sets)
    (take_all c.loop-k.k (line_of of).allowed (omega (arith, n, c.len-n.ensures.value))) c.loop-k.invariant.exact
