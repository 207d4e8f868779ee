use Rattle.std.proofs.Common.{◌≡◌, ◌∙◌, ℕ, List, ap, sym, subst, arith}
use Rattle.std.specs.Prelude.{◌-ℤ◌, ◌≤ℤ◌}
use Rattle.std.proofs.lemmas.Int.{ints}
use Rattle.std.proofs.lemmas.Option.{IfSome_then}
use Rattle.vr_model.specs.declared.records.Model.{Model}
use Rattle.vr_routes.specs.Judging.{cost_change}
use Rattle.vr_routes.specs.Runs.{with_last}
use Rattle.vr_arccosts.specs.ArcMoves.{arcs_added}
use Rattle.vr_judge.specs.Costs.{KeptCosts, StandsCosts}
use Rattle.vr_judge.proofs.LeastLemmas.{known_of}
use Rattle.vr_judge.proofs.costs.Costs.first_below.Goals as goal

pub returns-clause-no_less : goal.returns-clause-no_less
returns-clause-no_less c = IfSome_then c.first_below.result c.first_below.ensures.no_less λ first told k low high one valid.
    let model : Model = c.args.self.now.model in
    let lists : List (List ℕ) = c.args.routes.now.lists in
    let mv = with_last c.args.mv k in
    let same : c.self.inside.arcs.model ≡ model = ap (λ k. k.arcs.model) c.self.view_is ∙ c.requires.stands.arcs_model in
    let range = c.ranges.bound in
    let saved = c.in_ok-saved.ensures in
    let sum = c.in_ok-enough.ensures in
    let fits = sum.0 in
    let is = sum.1 in
    let least = known_of c.self.inside.arcs.model model lists mv _ same (told k low high) one in
    let more : (arcs_added model lists mv -ℤ c.in_ok-saved.saved) ≤ℤ cost_change model lists mv = saved.least k one valid in
    omega (arith, ints, range, fits, is, least, more, saved.range.low, saved.range.high)

-- the bounds of gaps may be other ones than they were
pub returns-clause-stands : goal.returns-clause-stands
returns-clause-stands c =
    let h = subst (λ (k : KeptCosts). StandsCosts k c.args.routes.now) (sym c.self.view_is) c.requires.stands in
    record {
      arcs_model = c.first_below.ensures.model ∙ h.arcs_model;
      fixed_model = h.fixed_model;
      groups_model = h.groups_model;
      plans_model = h.plans_model;
      spans_model = h.spans_model;
      earliest_model = h.earliest_model;
      arcs = c.first_below.ensures.stands;
      fixed = h.fixed;
      groups = h.groups;
      plans = h.plans;
      spans = h.spans;
      earliest = h.earliest;
      arcs_and_groups_is = h.arcs_and_groups_is;
      arcs_and_groups = h.arcs_and_groups;
    }
