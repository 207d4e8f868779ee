use Rattle.std.proofs.Common.{◌≡◌, ◌∙◌, ◌<◌, [], ℕ, ap, arith, subst, sym, length, length-set}
use Rattle.std.proofs.lemmas.List.{get_or_default}
use Rattle.vr_model.specs.routes.Routes.{route}
use Rattle.vr_routes.specs.Seats.{IsSameOrEmpty}
use Rattle.vr_routes.proofs.ListsLemmas.{one_cleared}
use Rattle.vr_routes.proofs.seats.Seating.clear_others.Goals as goal

pub loop-v-preserved : goal.loop-v-preserved
loop-v-preserved c =
    let now = c.loop-v.self.lists in
    let whole = c.args.lists.now in
    let v : ℕ = c.loop-v.v in
    let many = c.loop-v.invariant.many in
    let low : v < length now = omega (arith, c.loop-v-test.true, many, c.requires.many) in
    let row : c.as_slice.result.now ≡ route whole v = c.as_slice.ensures ∙ c.index-lists-v.is
    ∙ get_or_default whole v c.index-lists-v.result [] c.loop-v-test.true in
    let left = c.clear_other.ensures.left in
    record {
      nodes = c.clear_other.ensures.nodes ∙ c.loop-v.invariant.nodes;
      many = ap length left.2 ∙ length-set now v left.0 ∙ many;
      done = λ w w_low. subst (λ lists. IsSameOrEmpty (route whole w) (route lists w)) (sym left.2)
          (one_cleared whole now v left.0 low (subst (λ l. IsSameOrEmpty l left.0) row left.1) c.loop-v.invariant.done w w_low);
    }

pub returns-clause-each : goal.returns-clause-each
returns-clause-each c = λ w low. c.loop-v.invariant.done w (omega (arith, low, c.loop-v-test.false))
