use Rattle.std.proofs.Common.{◌≡◌, ◌∙◌, ◌+◌, ◌<◌, ℕ, List, length, refl, ap, subst, sym, arith, to_z, of_z, w64}
use Rattle.std.specs.Prelude.{slice_index_or}
use Rattle.std.proofs.lemmas.Bool.{false≢true}
use Rattle.std.proofs.lemmas.List.{get_or_default}
use Rattle.vr_model.specs.routes.Routes.{route}
use Rattle.vr_model.specs.schedules.Lines.{Line, line}
use Rattle.vr_model.specs.schedules.Narrowed.{between, chosen_line, narrowed}
use Rattle.vr_model.proofs.schedules.UnderRules.{narrowed_to_ends}
use Rattle.vr_routes.specs.Pieces.{joined}
use Rattle.vr_plan.proofs.BoundLemmas.{read-cumul}
use Rattle.vr_spans.proofs.RunsLemmas.{none_from_test, some_from_test}
use Rattle.vr_costfilter.specs.KeptWays.{AreKeptWays}
use Rattle.vr_costfilter.specs.GuideRuns.{runs_of}
use Rattle.vr_costfilter.specs.KeptWays.{KeptTightWays}
use Rattle.vr_costfilter.specs.Runs.{AllowsRuns, between_runs}
use Rattle.vr_costfilter.proofs.BetweenLemmas.{between-allows, end-in, start-in}
use Rattle.vr_costfilter.proofs.RunLemmas.{line-allows}
use Rattle.vr_costfilter.proofs.TightLemmas.{chosen-feasible, ends-timed}
use Rattle.vr_costfilter.proofs.kept.KeptList.tight_after.Goals as goal

-- what is kept first, by any other name
told-ways : (ends : List KeptTightWays) (first : KeptTightWays) (n : ℕ) → 0 < length ends → first ≡ slice_index_or ends 0 first
    → length first.ways.items ≡ n + 1 → (other : KeptTightWays) → length (slice_index_or ends 0 other).ways.items ≡ n + 1
told-ways ends first n some is many other = subst (λ (k : KeptTightWays). length k.ways.items ≡ n + 1) (is ∙ get_or_default ends 0 first other some) many

pub ends_of-ends-requires-clause-kept : goal.ends_of-ends-requires-clause-kept
ends_of-ends-requires-clause-kept c =
    let g = c.args.asked.now.guide.now in
    let many = c.has_ways.ensures.0 c.if-not-has_ways.false in
    let list = ap length c.list-list.ensures.value in
    let some : 0 < length c.args.self.now.ends.items = (let some = some_from_test _ _ c.if-is_empty.false c.is_empty.ensures in omega (arith, some)) in
    let is = subst (AreKeptWays g.model.now g.d g.v (route c.args.asked.now.routes.now.lists g.v))
    (sym c.index-kept.ensures) (c.requires.kept.of_old.ends.first c.index-kept.result.now some) in
    is.ways (omega (arith, many, list))

pub timing_between-requires-clause-allows : goal.timing_between-requires-clause-allows
timing_between-requires-clause-allows c =
    let g = c.args.asked.now.guide.now in
    let m = g.model.now in
    let list : List ℕ = joined c.args.asked.now.routes.now.lists c.args.asked.now.pieces.now in
    let L : Line = line m g.d g.v list in
    let by = line-allows m g.d g.v (runs_of g) c.requires.kept.by.runs list c.args.asked.now.sound.used.tour in
    let ends = c.ends_of-ends.result in
    let told = c.ends_of-ends.ensures in
    let is : chosen_line m g.d g.v list ≡ between L ends.start ends.last =
    ap (λ rule. narrowed rule L) c.requires.kept.by.rule_is ∙ narrowed_to_ends L by.has.stops ends.start ends.last told.last told.start in
    let a = between-allows m g.d g.v (runs_of g) list L by ends.start ends.last told.start in
    subst (λ (l : Line). AllowsRuns m g.d g.v (between_runs (runs_of g) ends.start ends.last) list l) (sym is) a

pub timing_between-requires-clause-ends : goal.timing_between-requires-clause-ends
timing_between-requires-clause-ends c =
    let g = c.args.asked.now.guide.now in
    let list : List ℕ = joined c.args.asked.now.routes.now.lists c.args.asked.now.pieces.now in
    let L : Line = line g.model.now g.d g.v list in
    let by = line-allows g.model.now g.d g.v (runs_of g) c.requires.kept.by.runs list c.args.asked.now.sound.used.tour in
    let ends = c.ends_of-ends.result in
    let start = c.ends_of-ends.ensures.start in
    record {
      start = start-in g.model.now g.d g.v (runs_of g) list L by ends.start ends.last start;
      last = end-in g.model.now g.d g.v (runs_of g) list L by ends.start ends.last start;
    }

-- told by its ends alone
pub returns-then-asked : goal.returns-then-asked
returns-then-asked c =
    let g = c.args.asked.now.guide.now in
    let m = g.model.now in
    let list : List ℕ = joined c.args.asked.now.routes.now.lists c.args.asked.now.pieces.now in
    let L : Line = line m g.d g.v list in
    let by = line-allows m g.d g.v (runs_of g) c.requires.kept.by.runs list c.args.asked.now.sound.used.tour in
    let some : 0 < length c.args.self.now.ends.items = (let some = some_from_test _ _ c.if-is_empty.false c.is_empty.ensures in omega (arith, some)) in
    let ends = c.ends_of-ends.result in
    let told = c.ends_of-ends.ensures in
    let start = start-in m g.d g.v (runs_of g) list L by ends.start ends.last told.start in
    let last = end-in m g.d g.v (runs_of g) list L by ends.start ends.last told.start in
    let timed = ends-timed m g.d g.v list c.requires.kept.by.rule_is c.requires.feasible ends.start
    ends.last told.last told.start (c.args.asked.now.guide.now.sound.hard c.if-asked.true) start last
    (to_z w64 (of_z w64 ends.start)) (to_z w64 (of_z w64 ends.last)) (read-cumul ends.start start) (read-cumul ends.last last) in
    let many = c.has_ways.ensures.0 c.if-not-has_ways.false in
    let length_is = ap length c.list-list.ensures.value in
    let ways : length c.index-kept.result.now.ways.items ≡ length (route c.args.asked.now.routes.now.lists g.v) + 1 = omega (arith, many, length_is) in
    record {
      known = (
        λ _. record {
          room = some;
          ways = told-ways c.args.self.now.ends.items c.index-kept.result.now
              (length (route c.args.asked.now.routes.now.lists g.v)) some c.index-kept.ensures ways;
        },
        λ _. refl,
      );
      timing = timed.is_timing;
      range = timed.range;
    }

pub returns-clause-known : goal.returns-clause-known
returns-clause-known c =
    let g = c.args.asked.now.guide.now in
    let list : List ℕ = joined c.args.asked.now.routes.now.lists c.args.asked.now.pieces.now in
    let some : 0 < length c.args.self.now.ends.items = (let some = some_from_test _ _ c.if-is_empty.false c.is_empty.ensures in omega (arith, some)) in
    let many = c.has_ways.ensures.0 c.if-not-has_ways.false in
    let length_is = ap length c.list-list.ensures.value in
    let ways : length c.index-kept.result.now.ways.items ≡ length (route c.args.asked.now.routes.now.lists g.v) + 1 = omega (arith, many, length_is) in (
      λ _. record {
        room = some;
        ways =
            told-ways c.args.self.now.ends.items c.index-kept.result.now (length (route c.args.asked.now.routes.now.lists g.v)) some c.index-kept.ensures ways;
      },
      λ _. c.timing_between.ensures.known ∙ chosen-feasible g.model.now g.d g.v list c.requires.feasible,
    )

pub returns-then-is_empty-clause-known : goal.returns-then-is_empty-clause-known
returns-then-is_empty-clause-known c =
    let none = none_from_test _ _ c.if-is_empty.true c.is_empty.ensures in
    (λ e. absurd (false≢true e), λ told. (absurd (omega (arith, none, told.room))))

pub returns-then-not-has_ways-clause-known : goal.returns-then-not-has_ways-clause-known
returns-then-not-has_ways-clause-known c =
    let length_is = ap length c.list-list.ensures.value in (
      λ e. absurd (false≢true e),
      λ told. (let many : length c.index-kept.result.now.ways.items ≡ length (route c.args.asked.now.routes.now.lists c.args.asked.now.guide.now.v) + 1 =
          subst (λ (k : KeptTightWays). length k.ways.items ≡ length (route c.args.asked.now.routes.now.lists c.args.asked.now.guide.now.v) + 1)
          (sym c.index-kept.ensures) (told.ways c.index-kept.result.now) in
          absurd (false≢true (sym c.if-not-has_ways.true ∙ c.has_ways.ensures.1 (omega (arith, many, length_is))))),
    )

pub returns-clause-timing : goal.returns-clause-timing
returns-clause-timing c = c.timing_between.ensures.timing

pub returns-clause-range : goal.returns-clause-range
returns-clause-range c = c.timing_between.ensures.range
