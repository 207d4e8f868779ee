use Rattle.std.proofs.Common.{◌≡◌, ◌∙◌, ◌+◌, ℕ, List, length, subst, sym}
use Rattle.vr_model.specs.schedules.Lines.{line}
use Rattle.vr_model.specs.tables.Tables.{vehicle_at}
use Rattle.vr_model.specs.declared.records.ScheduleRule.{ScheduleRule}
use Rattle.vr_model.specs.declared.records.ScheduleRule.TheVariants.{Earliest}
use Rattle.vr_costfilter.specs.GuideRuns.{runs_of}
use Rattle.vr_costfilter.specs.Kept.{HasAllAsked}
use Rattle.vr_costfilter.specs.declared.kept.KeptList.{KeptList}
use Rattle.vr_costfilter.proofs.KeptCumulLemmas.{other-rule, stages-so}
use Rattle.vr_costfilter.proofs.RunLemmas.{line-allows}
use Rattle.vr_costfilter.proofs.kept.KeptList.write_earliest.Goals as goal

pub returns-clause-kept : goal.returns-clause-kept
returns-clause-kept c =
    let g = c.args.on.now.guide.now in
    let list = c.args.on.now.list.now in
    record {
      earliest = λ rule runs are. stages-so g.model.now g.d g.v (runs_of g) runs c.requires.runs are list _ c.write.ensures.stages;
      tight = λ rule runs are. absurd (other-rule (sym c.requires.rule_is ∙ rule));
      between = c.forget.ensures.between;
      ends = c.forget.ensures.ends g.model.now g.d g.v list;
      whole = λ tour one feasible room. told-by (vehicle_at g.model.now g.v).schedule list _ c.requires.rule_is
          (c.write.ensures.all (line g.model.now g.d g.v list) (line-allows g.model.now g.d g.v (runs_of g) c.requires.runs list tour) feasible);
    }
  where
    told-by : (rule : ScheduleRule) (list : List ℕ) (kept : KeptList) → rule ≡ Earliest
        → length kept.steps.stages.items ≡ length list + 2 → HasAllAsked rule list kept
    told-by rule list kept is many = subst (λ r. HasAllAsked r list kept) (sym is) many
