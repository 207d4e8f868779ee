use Rattle.std.proofs.Common.{ℕ, List, subst, sym, arith}
use Rattle.std.specs.Prelude.{◌-ℤ◌}
use Rattle.std.specs.Int.{int_min}
use Rattle.vr_model.specs.schedules.Lines.{line}
use Rattle.vr_model.specs.schedules.Tight.{IsLatestStart, IsLeastEnd}
use Rattle.vr_routes.specs.Pieces.{joined}
use Rattle.vr_costfilter.specs.Asked.{new_list, old_list}
use Rattle.vr_costfilter.specs.GuideRuns.{runs_of}
use Rattle.vr_costfilter.specs.declared.changed_list.Asked.{Asked}
use Rattle.vr_costfilter.specs.KeptWays.{KeptTightWays}
use Rattle.vr_costfilter.proofs.EndsLemmas.{middle-few, middle-visits, rest-small, way-small, whole-known, whole-small, IsKeptAt}
use Rattle.vr_costfilter.proofs.RunLemmas.{line-allows}
use Rattle.vr_costfilter.proofs.WayLemmas.{latest-start, least-end}
use Rattle.vr_costfilter.proofs.changed_list.Asked.ends_of.Goals as goal

pub way-front-requires : goal.way-front-requires
way-front-requires c = omega (arith, c.requires.kept.has.keeps.ways.many, c.args.self.now.sound.spliced.order, c.args.self.now.sound.spliced.high)

pub rest-left-requires : goal.rest-left-requires
rest-left-requires c = omega (arith, c.requires.kept.has.keeps.rests.many, c.args.self.now.sound.spliced.high)

-- what the list that is asked of keeps of the old one
abbrev Around : Asked → KeptTightWays → Type 0
Around asked kept = IsKeptAt asked.guide.now (old_list asked) (new_list asked) asked.splice.front
    asked.splice.behind (joined asked.routes.now.lists asked.splice.middle.now) kept

pub along_pieces-way-requires-clause-few : goal.along_pieces-way-requires-clause-few
along_pieces-way-requires-clause-few c =
    let it : Around c.args.self.now c.args.kept.now = record {
      are = c.requires.runs;
      joins = c.args.self.now.sound.spliced.joins;
      tour = c.args.self.now.sound.used.tour;
      few = c.args.self.now.sound.few;
      feasible = c.requires.feasible;
      is = c.requires.kept;
    } in
    let few = middle-few it in omega (arith, few)

pub along_pieces-way-requires-clause-nodes : goal.along_pieces-way-requires-clause-nodes
along_pieces-way-requires-clause-nodes c =
    let it : Around c.args.self.now c.args.kept.now = record {
      are = c.requires.runs;
      joins = c.args.self.now.sound.spliced.joins;
      tour = c.args.self.now.sound.used.tour;
      few = c.args.self.now.sound.few;
      feasible = c.requires.feasible;
      is = c.requires.kept;
    } in
    middle-visits it

pub along_pieces-way-requires-clause-way : goal.along_pieces-way-requires-clause-way
along_pieces-way-requires-clause-way c =
    let it : Around c.args.self.now c.args.kept.now = record {
      are = c.requires.runs;
      joins = c.args.self.now.sound.spliced.joins;
      tour = c.args.self.now.sound.used.tour;
      few = c.args.self.now.sound.few;
      feasible = c.requires.feasible;
      is = c.requires.kept;
    } in
    way-small it c.way-front.result (omega (arith, c.args.self.now.sound.spliced.order, c.args.self.now.sound.spliced.high)) c.way-front.ensures

pub way_through-whole-requires-clause-rest : goal.way_through-whole-requires-clause-rest
way_through-whole-requires-clause-rest c =
    let it : Around c.args.self.now c.args.kept.now = record {
      are = c.requires.runs;
      joins = c.args.self.now.sound.spliced.joins;
      tour = c.args.self.now.sound.used.tour;
      few = c.args.self.now.sound.few;
      feasible = c.requires.feasible;
      is = c.requires.kept;
    } in
    rest-small it c.rest-left.result c.args.self.now.sound.spliced.high c.rest-left.ensures

pub ends_by-requires : goal.ends_by-requires
ends_by-requires c =
    let it : Around c.args.self.now c.args.kept.now = record {
      are = c.requires.runs;
      joins = c.args.self.now.sound.spliced.joins;
      tour = c.args.self.now.sound.used.tour;
      few = c.args.self.now.sound.few;
      feasible = c.requires.feasible;
      is = c.requires.kept;
    } in (
      c.args.self.now.guide.now.model.now,
      whole-small it c.along_pieces-way.result c.way_through-whole.result c.rest-left.result
          c.args.self.now.sound.spliced.high c.along_pieces-way.ensures.range c.rest-left.ensures c.way_through-whole.ensures,
    )

pub returns-clause-last : goal.returns-clause-last
returns-clause-last c =
    let g = c.args.self.now.guide.now in
    let list : List ℕ = new_list c.args.self.now in
    let it : Around c.args.self.now c.args.kept.now = record {
      are = c.requires.runs;
      joins = c.args.self.now.sound.spliced.joins;
      tour = c.args.self.now.sound.used.tour;
      few = c.args.self.now.sound.few;
      feasible = c.requires.feasible;
      is = c.requires.kept;
    } in
    let is = whole-known it c.way-front.result c.along_pieces-way.result c.way_through-whole.result c.rest-left.result
    (omega (arith, c.args.self.now.sound.spliced.order, c.args.self.now.sound.spliced.high)) c.args.self.now.sound.spliced.high
    c.way-front.ensures c.rest-left.ensures c.along_pieces-way.ensures.value c.way_through-whole.ensures in
    let by = line-allows g.model.now g.d g.v (runs_of g) c.requires.runs list c.args.self.now.sound.used.tour in
    subst (IsLeastEnd (line g.model.now g.d g.v list)) (sym c.ends_by.ensures.last)
    (least-end g.model.now g.d g.v (runs_of g) list (line g.model.now g.d g.v list) by c.requires.feasible c.way_through-whole.result is)

pub returns-clause-start : goal.returns-clause-start
returns-clause-start c =
    let g = c.args.self.now.guide.now in
    let list : List ℕ = new_list c.args.self.now in
    let whole = c.way_through-whole.result in
    let it : Around c.args.self.now c.args.kept.now = record {
      are = c.requires.runs;
      joins = c.args.self.now.sound.spliced.joins;
      tour = c.args.self.now.sound.used.tour;
      few = c.args.self.now.sound.few;
      feasible = c.requires.feasible;
      is = c.requires.kept;
    } in
    let is = whole-known it c.way-front.result c.along_pieces-way.result c.way_through-whole.result c.rest-left.result
    (omega (arith, c.args.self.now.sound.spliced.order, c.args.self.now.sound.spliced.high)) c.args.self.now.sound.spliced.high
    c.way-front.ensures c.rest-left.ensures c.along_pieces-way.ensures.value c.way_through-whole.ensures in
    let start = latest-start g.model.now g.d g.v (runs_of g) list (line g.model.now g.d g.v list)
    (line-allows g.model.now g.d g.v (runs_of g) c.requires.runs list c.args.self.now.sound.used.tour) c.requires.feasible whole is in
    subst (λ s. IsLatestStart (line g.model.now g.d g.v list) c.ends_by.result.last s) (sym c.ends_by.ensures.start)
    (subst (λ e. IsLatestStart (line g.model.now g.d g.v list) e (int_min whole.latest (whole.time -ℤ whole.transits))) (sym c.ends_by.ensures.last) start)
