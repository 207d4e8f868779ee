use Rattle.std.proofs.Common.{◌∙◌, [], ◌∷◌, ◌+◌, length, length-append, ap, subst}
use Rattle.vr_model.specs.declared.records.Model.{Model}
use Rattle.vr_parts.proofs.RowLemmas.{rows-push}
use Rattle.vr_bounds.specs.Kept.{MayStand}
use Rattle.vr_bounds.proofs.puts.Puts.follow.Goals as goal

pub loop-place-preserved : goal.loop-place-preserved
loop-place-preserved c =
    let i = c.loop-place.invariant in
    let model : Model = c.args.driver.closed.model.now in
    let age = c.age_after.result in
    let here = subst (λ l. MayStand model c.args.driver.vehicle c.args.self.now l c.loop-place.place age) c.as_slice.ensures.value c.age_after.ensures in
    record {
      many = ap length c.push.ensures ∙ length-append c.loop-place.ages (age ∷ []) ∙ ap (λ n. n + 1) i.many;
      each = rows-push (λ place a. MayStand model c.args.driver.vehicle c.args.self.now c.args.row place a)
          0 c.loop-place.ages c.push.new.self age c.loop-place.place i.many i.each here c.push.ensures;
    }
