use Rattle.std.proofs.Common.{◌∙◌, ℕ, List, ap, arith}
use Rattle.std.proofs.lemmas.Int.{ints}
use Rattle.std.specs.Prelude.{nat_lt, not}
use Rattle.vr_model.specs.routes.Routes.{route}
use Rattle.vr_parts.specs.Splices.{spliced}
use Rattle.vr_usecosts.proofs.FixedLemmas.{some-nodes}
use Rattle.vr_usecosts.proofs.fixed.FixedCostListCost.list_adds.Goals as goal

pub returns-clause-value : goal.returns-clause-value
returns-clause-value c =
    let lists : List (List ℕ) = c.args.routes.now.lists in
    let s = c.args.splice in
    let list : List ℕ = spliced lists s.vehicle s.front s.behind s.middle.now in
    let a = c.fixed-after.ensures.value list (ap not c.is_left_empty.ensures ∙ some-nodes list) in
    let b = c.fixed.ensures.value (route lists s.vehicle) (ap (nat_lt 0) c.len.ensures.value) in
    let x = c.fixed-after.ensures.range in
    let y = c.fixed.ensures.range in
    omega (arith, ints, a, b, x.low, x.high, y.low, y.high)
