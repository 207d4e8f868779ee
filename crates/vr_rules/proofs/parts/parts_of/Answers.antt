use Rattle.std.proofs.Common.{◌≡◌, ◌∙◌, subst, sym, arith}
use Rattle.std.proofs.lemmas.Int.{ints}
use Rattle.vr_model.specs.declared.records.Parts.{Parts}
use Rattle.vr_model.specs.routes.Costs.{assigned, parts_at}
use Rattle.vr_rules.specs.Totals.{AreInRange}
use Rattle.vr_rules.proofs.PenaltyLemmas.{groups_fit-open, penalty_part-marks}
use Rattle.vr_rules.proofs.PartLemmas.{soft-part, span-part}
use Rattle.vr_rules.proofs.TotalLemmas.{read}
use Rattle.vr_rules.proofs.parts.parts_of.Goals.{After-fixed_of_routes}
use Rattle.vr_rules.proofs.parts.parts_of.Goals as goal

pub penalty_of_groups-penalty-requires-clause-fit : goal.penalty_of_groups-penalty-requires-clause-fit
penalty_of_groups-penalty-requires-clause-fit c =
    groups_fit-open c.args.of.now.lookups.now.closed.model.now c.args.of.now.lookups.now.closed.well_formed
    c.args.of.now.routes.now.lists c.args.of.now.marks.now c.args.of.now.marks_are c.requires

-- the parts as code puts them together
abbrev added_up : After-fixed_of_routes → Parts
added_up c = record {
  arcs = read c.arcs_of_routes.result;
  fixed = read c.fixed_of_routes.result;
  global = read c.in_ok-timed.timed.global;
  penalty = read c.penalty_of_groups-penalty.result;
  soft = read c.in_ok-timed.timed.soft;
  span = read c.in_ok-timed.timed.span;
}

-- they are those of the definition
added_up_is : (c : After-fixed_of_routes)
    → added_up c ≡ parts_at c.args.of.now.lookups.now.closed.model.now (assigned c.args.of.now.lookups.now.closed.model.now c.args.of.now.routes.now.lists)
added_up_is c =
    let model = c.args.of.now.lookups.now.closed.model.now in
    let lists = c.args.of.now.routes.now.lists in
    let few = c.args.of.now.lookups.now.closed.well_formed.number_of_dimensions in
    let timed = c.in_ok-timed.ensures in
    let arcs_read : read c.arcs_of_routes.result ≡ c.arcs_of_routes.result = omega (arith, ints, c.arcs_of_routes.ensures.low, c.arcs_of_routes.ensures.high) in
    let fixed_read : read c.fixed_of_routes.result ≡ c.fixed_of_routes.result =
    omega (arith, ints, c.fixed_of_routes.ensures.low, c.fixed_of_routes.ensures.high) in
    let penalty_read : read c.penalty_of_groups-penalty.result ≡ c.penalty_of_groups-penalty.result =
    omega (arith, ints, c.penalty_of_groups-penalty.ensures.low, c.penalty_of_groups-penalty.ensures.high) in
    let soft_read : read c.in_ok-timed.timed.soft ≡ c.in_ok-timed.timed.soft = omega (arith, ints, timed.soft_not_negative, timed.soft_bound, few) in
    let span_read : read c.in_ok-timed.timed.span ≡ c.in_ok-timed.timed.span = omega (arith, ints, timed.span_in_range.low, timed.span_in_range.high, few) in
    let global_read : read c.in_ok-timed.timed.global ≡ c.in_ok-timed.timed.global =
    omega (arith, ints, timed.global_in_range.low, timed.global_in_range.high, few) in
    let arcs = arcs_read ∙ c.arcs_of_routes.ensures.value in
    let fixed = fixed_read ∙ c.fixed_of_routes.ensures.value in
    let penalty = penalty_read ∙ c.penalty_of_groups-penalty.ensures.value
    ∙ penalty_part-marks model c.args.of.now.lookups.now.closed.well_formed lists c.args.of.now.marks.now c.args.of.now.marks_are in
    let global = global_read ∙ timed.global in
    let soft = soft_read ∙ timed.soft ∙ soft-part model lists in
    let span = span_read ∙ timed.span ∙ span-part model lists in
    λ t. record { arcs = arcs t; fixed = fixed t; global = global t; penalty = penalty t; soft = soft t; span = span t }

-- and have their bounds
in_range : (c : After-fixed_of_routes) → AreInRange (added_up c)
in_range c =
    let few = c.args.of.now.lookups.now.closed.well_formed.number_of_dimensions in
    let timed = c.in_ok-timed.ensures in
    let arcs_read : read c.arcs_of_routes.result ≡ c.arcs_of_routes.result = omega (arith, ints, c.arcs_of_routes.ensures.low, c.arcs_of_routes.ensures.high) in
    let fixed_read : read c.fixed_of_routes.result ≡ c.fixed_of_routes.result =
    omega (arith, ints, c.fixed_of_routes.ensures.low, c.fixed_of_routes.ensures.high) in
    let penalty_read : read c.penalty_of_groups-penalty.result ≡ c.penalty_of_groups-penalty.result =
    omega (arith, ints, c.penalty_of_groups-penalty.ensures.low, c.penalty_of_groups-penalty.ensures.high) in
    let soft_read : read c.in_ok-timed.timed.soft ≡ c.in_ok-timed.timed.soft = omega (arith, ints, timed.soft_not_negative, timed.soft_bound, few) in
    let span_read : read c.in_ok-timed.timed.span ≡ c.in_ok-timed.timed.span = omega (arith, ints, timed.span_in_range.low, timed.span_in_range.high, few) in
    let global_read : read c.in_ok-timed.timed.global ≡ c.in_ok-timed.timed.global =
    omega (arith, ints, timed.global_in_range.low, timed.global_in_range.high, few) in
    record {
      arcs_low = omega (arith, ints, arcs_read, c.arcs_of_routes.ensures.low);
      arcs_high = omega (arith, ints, arcs_read, c.arcs_of_routes.ensures.high);
      fixed_low = omega (arith, ints, fixed_read, c.fixed_of_routes.ensures.low);
      fixed_high = omega (arith, ints, fixed_read, c.fixed_of_routes.ensures.high);
      global = record {
        low = omega (arith, ints, global_read, timed.global_in_range.low, few);
        high = omega (arith, ints, global_read, timed.global_in_range.high, few);
      };
      penalty_low = omega (arith, ints, penalty_read, c.penalty_of_groups-penalty.ensures.low);
      penalty_high = omega (arith, ints, penalty_read, c.penalty_of_groups-penalty.ensures.high);
      soft_low = omega (arith, ints, soft_read, timed.soft_not_negative);
      soft_high = omega (arith, ints, soft_read, timed.soft_bound, few);
      span =
          record { low = omega (arith, ints, span_read, timed.span_in_range.low, few); high = omega (arith, ints, span_read, timed.span_in_range.high, few) };
    }

pub returns-clause-parts : goal.returns-clause-parts
returns-clause-parts c = added_up_is (goal.at.returns-clause-parts c).After-fixed_of_routes

pub returns-clause-range : goal.returns-clause-range
returns-clause-range c = in_range (goal.at.returns-clause-range c).After-fixed_of_routes
