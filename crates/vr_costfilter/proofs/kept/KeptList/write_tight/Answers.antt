use Rattle.std.proofs.Common.{◌≡◌, ◌∙◌, ◌+◌, ℕ, List, cond, length, length-set, ap, sym, subst, arith}
use Rattle.std.specs.Prelude.{slice_index_or}
use Rattle.std.proofs.lemmas.List.{get_or-set_same}
use Rattle.vr_model.specs.tables.Tables.{vehicle_at}
use Rattle.vr_model.specs.declared.records.ScheduleRule.{ScheduleRule}
use Rattle.vr_model.specs.declared.records.ScheduleRule.TheVariants.{Tight}
use Rattle.vr_spans.proofs.RunsLemmas.{none_from_test, some_from_test}
use Rattle.vr_costfilter.specs.KeptWays.{AreKeptWays, HasWaysBy, HaveKeptWays}
use Rattle.vr_costfilter.specs.GuideRuns.{runs_of}
use Rattle.vr_costfilter.specs.Kept.{is_tight, HasAllAsked, HasAllWays}
use Rattle.vr_costfilter.specs.KeptWays.{KeptTightWays}
use Rattle.vr_costfilter.specs.declared.kept.KeptList.{KeptList}
use Rattle.vr_costfilter.proofs.KeptCumulLemmas.{ends-set, other-rule, stages-between, stages-none}
use Rattle.vr_costfilter.proofs.kept.KeptList.write_tight.Goals as goal

pub write_ways-requires : goal.write_ways-requires
write_ways-requires c = (omega arith, (c.args.on.now.sound.few, c.args.on.now.sound.visits))

pub write_between-requires : goal.write_between-requires
write_between-requires c =
    let g = c.args.on.now.guide.now in
    let items : List KeptTightWays = c.forget.new.self.ends.items in
    let many = length-set items 0 c.write_ways.new.kept in
    let some = some_from_test _ _ c.if-is_empty.false c.is_empty.ensures in
    record {
      ends = omega (arith, many, some);
      ways = λ other. subst (HasWaysBy g.model.now g.d g.v (runs_of g) c.args.on.now.list.now)
          (sym (get_or-set_same items 0 c.write_ways.new.kept other (omega (arith, some))))
          (record { runs_are = c.requires.runs; keeps = c.write_ways.ensures });
      none = c.forget.ensures.none;
      between = c.forget.ensures.between;
    }

pub returns-then-is_empty-clause-kept : goal.returns-then-is_empty-clause-kept
returns-then-is_empty-clause-kept c =
    let g = c.args.on.now.guide.now in
    record {
      earliest = λ rule runs are. absurd (other-rule (sym rule ∙ c.requires.rule_is));
      tight = λ rule runs are. stages-none g.model.now g.d g.v _ c.args.on.now.list.now _ (omega (arith, c.forget.ensures.none));
      between = c.forget.ensures.between;
      ends = c.forget.ensures.ends g.model.now g.d g.v c.args.on.now.list.now;
      whole = λ tour one feasible room.
          absurd (no-room (vehicle_at g.model.now g.v).schedule (length c.forget.new.self.ends.items) c.requires.rule_is
          room (let none = none_from_test _ _ c.if-is_empty.true c.is_empty.ensures in omega (arith, none)));
    }
  where
    no-room : (rule : ScheduleRule) (n : ℕ) → rule ≡ Tight → n ≡ cond (is_tight rule) 1 0 → n ≡ 0 → ⊥
    no-room rule n is room none = (let one : n ≡ 1 = subst (λ r. n ≡ cond (is_tight r) 1 0) is room in omega (arith, one, none))

pub returns-clause-kept : goal.returns-clause-kept
returns-clause-kept c =
    let g = c.args.on.now.guide.now in
    let list = c.args.on.now.list.now in
    let items : List KeptTightWays = c.forget.new.self.ends.items in
    let new : KeptTightWays = c.write_ways.new.kept in
    let is : AreKeptWays g.model.now g.d g.v list new = record {
      ways = λ _. record { runs = runs_of g; has = record { runs_are = c.requires.runs; keeps = c.write_ways.ensures } };
    } in
    record {
      earliest = λ rule runs are. absurd (other-rule (sym rule ∙ c.requires.rule_is));
      tight = λ rule runs are. stages-between g.model.now g.d g.v (runs_of g) runs c.requires.runs are _ _ list _ c.write_between.ensures.stages;
      between = c.write_between.ensures.between;
      ends = subst (HaveKeptWays g.model.now g.d g.v list) (sym c.write_between.ensures.ends) (ends-set g.model.now g.d g.v list items new is);
      whole = λ tour one feasible room. told-by (vehicle_at g.model.now g.v).schedule list _ c.requires.rule_is (record {
        room = (let many = length-set items 0 new in
            let same = ap length c.write_between.ensures.ends in
            let some = some_from_test _ _ c.if-is_empty.false c.is_empty.ensures in
            omega (arith, many, same, some));
        ways = λ other. subst (λ (l : List KeptTightWays). length (slice_index_or l 0 other).ways.items ≡ length list + 1) (sym c.write_between.ensures.ends)
            (subst (λ (k : KeptTightWays). length k.ways.items ≡ length list + 1)
            (sym (get_or-set_same items 0 new other (let some = some_from_test _ _ c.if-is_empty.false c.is_empty.ensures in omega (arith, some))))
            (omega (arith, c.write_ways.ensures.ways.many)));
      });
    }
  where
    told-by : (rule : ScheduleRule) (list : List ℕ) (kept : KeptList) → rule ≡ Tight → HasAllWays list kept → HasAllAsked rule list kept
    told-by rule list kept is told = subst (λ r. HasAllAsked r list kept) (sym is) told

pub returns-clause-room : goal.returns-clause-room
returns-clause-room c =
    ap length c.write_between.ensures.ends ∙ length-set c.forget.new.self.ends.items 0 c.write_ways.new.kept ∙ c.forget.ensures.room
