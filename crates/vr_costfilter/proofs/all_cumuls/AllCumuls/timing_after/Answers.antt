use Rattle.std.proofs.Common.{◌≤◌, ◌∙◌, ◌+◌, ℕ, List, length, ap, sym, subst, arith}
use Rattle.std.specs.Prelude.{◌↔◌, IfSome, IsTrue, is_some, slice_index_or}
use Rattle.std.proofs.lemmas.List.{get_or_default}
use Rattle.vr_model.specs.routes.Routes.{route}
use Rattle.vr_model.specs.schedules.Lines.{line}
use Rattle.vr_model.specs.schedules.Schedules.{IsFeasible}
use Rattle.vr_routes.specs.Pieces.{joined, part_at, IsSplice}
use Rattle.vr_plan.specs.Timings.{IsTiming, IsTimingOf}
use Rattle.vr_reach.specs.Lists.{IsUsed}
use Rattle.vr_costfilter.specs.Kept.{IsKnown}
use Rattle.vr_costfilter.specs.declared.kept.KeptList.{KeptList}
use Rattle.vr_parts.proofs.PartLemmas.{small}
use Rattle.vr_costfilter.proofs.PartLemmas.{feasible-after, list-of, list-of-part, used-after}
use Rattle.vr_costfilter.proofs.all_cumuls.AllCumuls.timing_after.Goals as goal

pub timing_after-requires-clause-joined : goal.timing_after-requires-clause-joined
timing_after-requires-clause-joined c =
    let part = c.args.part.now in
    let m = part.model.now in
    let lists : List (List ℕ) = part.routes.now.lists in
    let parts = part.change.now in
    let is = list-of-part part in
    let many = (small m part.sound.well_formed lists part.sound.before).many in
    let v = c.splice.ensures.known in
    let ends = c.splice.result in
    let joined_is = sym c.pieces.ensures.value in
    let feasible = feasible-after m lists parts part.sound.parts_are part.sound.valid part.k part.sound.part c.args.d c.requires.dimension c.requires.some in
    record {
      vehicle = v;
      are = record {
        known = omega (arith, many, v);
        short = (list-of m part.sound.well_formed lists part.sound.before c.splice.result.vehicle).few;
        within = c.pieces.ensures.within;
        spliced = subst (λ ps. IsSplice lists ends.vehicle ps ends.front ends.behind ends.middle.now) joined_is
            (subst (λ v. IsSplice lists v (part_at parts part.k).pieces ends.front ends.behind ends.middle.now)
            (sym c.splice.ensures.vehicle) c.splice.ensures.ends);
        used = subst (λ ps. IsUsed m (joined lists ps)) joined_is (used-after m (joined lists (part_at parts part.k).pieces) is c.requires.some);
        few = subst (λ ps. length (joined lists ps) ≤ 1000) joined_is is.few;
      };
      feasible = subst (λ ps. IsFeasible (line m c.args.d c.splice.result.vehicle (joined lists ps))) joined_is
          (subst (λ v. IsFeasible (line m c.args.d v (joined lists (part_at parts part.k).pieces))) (sym c.splice.ensures.vehicle) feasible);
    }

pub returns-clause-timing : goal.returns-clause-timing
returns-clause-timing c =
    let m = c.args.part.now.model.now in
    let lists : List (List ℕ) = c.args.part.now.routes.now.lists in
    let timing = c.timing_after.result in
    let a = subst (λ v. IfSome timing (IsTiming m c.args.d v (joined lists c.pieces.result.now))) c.splice.ensures.vehicle c.timing_after.ensures.timing in
    subst (λ ps. IfSome timing (IsTiming m c.args.d (part_at c.args.part.now.change.now c.args.part.now.k).vehicle (joined lists ps))) c.pieces.ensures.value a

pub returns-clause-range : goal.returns-clause-range
returns-clause-range c =
    subst (λ ps. IfSome c.timing_after.result (IsTimingOf (length (joined c.args.part.now.routes.now.lists ps) + 2)))
    c.pieces.ensures.value c.timing_after.ensures.range

pub returns-clause-known : goal.returns-clause-known
returns-clause-known c other =
    let m = c.args.part.now.model.now in
    let lists : List (List ℕ) = c.args.part.now.routes.now.lists in
    let some = is_some c.timing_after.result in
    let kept = c.index-kept.result.now in
    let a = subst (λ v. IsTrue some ↔ IsKnown m c.args.d v (route lists v) kept) c.splice.ensures.vehicle c.timing_after.ensures.known in
    let b = subst (λ k. IsTrue some ↔ IsKnown m c.args.d (part_at c.args.part.now.change.now c.args.part.now.k).vehicle
    (route lists (part_at c.args.part.now.change.now c.args.part.now.k).vehicle) k) c.index-kept.ensures a in
    subst (λ k. IsTrue some ↔ IsKnown m c.args.d (part_at c.args.part.now.change.now c.args.part.now.k).vehicle
    (route lists (part_at c.args.part.now.change.now c.args.part.now.k).vehicle) k)
    (get_or_default c.self.inside.dimensions.items c.args.d kept other
    (let view = ap length c.self.view_is in omega (arith, c.requires.dimension, c.requires.kept.many, view))
    ∙ ap (λ (l : List (List KeptList)). slice_index_or l c.args.d other) c.self.view_is) b
