use Rattle.std.proofs.Common.{◌≡◌, ◌≤◌, ◌∙◌, ◌-◌, ℕ, List, drop, length, ap, ap₂, sym, subst, arith, to_z, of_z, w64}
use Rattle.std.specs.Prelude.{All, IsTrue, ℤ, pos, slice_index_or}
use Rattle.vr_model.specs.tables.Numbers.{horizon}
use Rattle.vr_model.specs.tables.Tables.{is_visit}
use Rattle.vr_model.specs.tables.WellFormed.{IsIn}
use Rattle.vr_plan.proofs.BoundLemmas.{read-cumul}
use Rattle.vr_costfilter.specs.KeptWays.{HasWaysBy, KeptTightWays}
use Rattle.vr_costfilter.specs.GuideRuns.{runs_of}
use Rattle.vr_costfilter.specs.Ways.{tight-more, last_by, nearest_cumul, start_by, way_out, whole_tight_way, IsTightWayOf}
use Rattle.vr_costfilter.specs.Rests.{tight_rest_of, way_through, IsTightRestOf}
use Rattle.vr_costfilter.specs.declared.guides.Guide.{Guide}
use Rattle.vr_costfilter.specs.declared.rests.Rest.{Rest}
use Rattle.vr_costfilter.specs.declared.tight.Way.{Way}
use Rattle.vr_costfilter.proofs.EndsLemmas.{kept-rest, kept-way}
use Rattle.vr_costfilter.proofs.RestLemmas.{end-way, through-rest}
use Rattle.vr_costfilter.proofs.WayLemmas.{end-read, start-small}
use Rattle.vr_costfilter.proofs.with_guide.ListWithGuide.ends.Goals as goal

-- the way of no visit and what is left from the start on, as they are read of what is kept
module _ (g : Guide) (list : List ℕ) (few : length list ≤ 1000) (visits : All (λ node. IsTrue (is_visit g.model.now node)) list)
    (kept : KeptTightWays) (has : HasWaysBy g.model.now g.d g.v (runs_of g) list kept) (way : Way) (rest : Rest)
    (way_is : (other : Way) → way ≡ slice_index_or kept.ways.items 0 other)
    (rest_is : (other : Rest) → rest ≡ slice_index_or kept.rests.items (length kept.rests.items - 1 - 0) other) where
  first : rest ≡ slice_index_or kept.rests.items (length list) rest
  first = rest_is rest
      ∙ ap (λ n. slice_index_or kept.rests.items n rest) (let e : length kept.rests.items - 1 - 0 ≡ length list = omega (arith, has.keeps.rests.many) in e)

  way-small : IsTightWayOf g.model.now 9000 way
  way-small =
      subst (IsTightWayOf g.model.now 9000) (sym (way_is way)) (tight-more 1000 9000 (omega arith) (kept-way g list few visits kept has 0 way (omega arith)))

  rest-small : IsTightRestOf g.model.now 1000 rest
  rest-small = subst (IsTightRestOf g.model.now 1000) (sym first) (kept-rest g list few visits kept has (length list) rest (omega arith))

  whole-small : (whole : Way) → whole ≡ way_through g.model.now g.d g.v way rest → IsTightWayOf g.model.now 10001 whole
  whole-small whole is =
      let h = g.sound in
      subst (IsTightWayOf g.model.now 10001) (sym is) (end-way g.model.now h.well_formed g.d g.v h.dimension h.vehicle 9000 1000 way rest way-small rest-small)

  -- through it the vehicle comes to the end of the whole list
  whole-known : way_through g.model.now g.d g.v way rest ≡ whole_tight_way g.model.now g.d g.v (runs_of g) list
  whole-known =
      let m = g.model.now in
      let all : length list - length list ≡ 0 = omega arith in
      let left : rest ≡ tight_rest_of m g.d g.v (runs_of g) list = first ∙ has.keeps.rests.each (length list) rest (omega arith)
      ∙ ap (λ n. tight_rest_of m g.d g.v (runs_of g) (drop n list)) all in
      ap₂ (λ (w : Way) (r : Rest). way_through m g.d g.v w r) (way_is way ∙ has.keeps.ways.each 0 way (omega arith)) left
      ∙ through-rest m g.d g.v (runs_of g) list (way_out m g.v (runs_of g))

pub way-way-requires : goal.way-way-requires
way-way-requires c = omega (arith, c.requires.keeps.ways.many)

pub rest-rest-requires : goal.rest-rest-requires
rest-rest-requires c = omega (arith, c.requires.keeps.rests.many)

pub way_through-whole-requires-clause-way : goal.way_through-whole-requires-clause-way
way_through-whole-requires-clause-way c =
    let l = c.args.self.now in
    way-small l.guide.now l.list.now l.sound.few l.sound.visits c.args.kept.now
    c.requires c.way-way.result c.rest-rest.result c.way-way.ensures c.rest-rest.ensures

pub way_through-whole-requires-clause-rest : goal.way_through-whole-requires-clause-rest
way_through-whole-requires-clause-rest c =
    let l = c.args.self.now in
    rest-small l.guide.now l.list.now l.sound.few l.sound.visits c.args.kept.now
    c.requires c.way-way.result c.rest-rest.result c.way-way.ensures c.rest-rest.ensures

pub ends_by-ends-requires : goal.ends_by-ends-requires
ends_by-ends-requires c =
    let l = c.args.self.now in (
      l.guide.now.model.now,
      whole-small l.guide.now l.list.now l.sound.few l.sound.visits c.args.kept.now c.requires c.way-way.result
          c.rest-rest.result c.way-way.ensures c.rest-rest.ensures c.way_through-whole.result c.way_through-whole.ensures,
    )

pub returns : goal.returns
returns c =
    let l = c.args.self.now in
    let small = whole-small l.guide.now l.list.now l.sound.few l.sound.visits c.args.kept.now c.requires c.way-way.result
    c.rest-rest.result c.way-way.ensures c.rest-rest.ensures c.way_through-whole.result c.way_through-whole.ensures in
    let is = c.way_through-whole.ensures ∙ whole-known l.guide.now l.list.now l.sound.few l.sound.visits
    c.args.kept.now c.requires c.way-way.result c.rest-rest.result c.way-way.ensures c.rest-rest.ensures in
    let start = c.ends_by-ends.ensures.start in
    let last = c.ends_by-ends.ensures.last in
    let start_read = start-small small c.ends_by-ends.result.start start ∙ start ∙ ap start_by is in
    let last_read = ap (λ (x : ℤ). to_z w64 (of_z w64 x)) last ∙ end-read small ∙ ap last_by is in
    record {
      ends = record {
        last = read-cumul c.within_horizon-2.result c.within_horizon-2.ensures.range ∙ c.within_horizon-2.ensures.value ∙ ap nearest_cumul last_read;
        start = read-cumul c.within_horizon.result c.within_horizon.ensures.range ∙ c.within_horizon.ensures.value ∙ ap nearest_cumul start_read;
      };
      range = record {
        start = subst (IsIn (pos 0) horizon) (sym (read-cumul c.within_horizon.result c.within_horizon.ensures.range)) c.within_horizon.ensures.range;
        last = subst (IsIn (pos 0) horizon) (sym (read-cumul c.within_horizon-2.result c.within_horizon-2.ensures.range)) c.within_horizon-2.ensures.range;
      };
    }
