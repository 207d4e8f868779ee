use Rattle.std.proofs.Common.{◌∙◌, suc, sym, ap, length}
use Rattle.std.specs.Bool.{then_some}
use Rattle.std.proofs.lemmas.Slice.Zip.{AllZip-long}
use Rattle.vr_model.specs.declared.records.Vehicle.{Vehicle}
use Rattle.vr_model.specs.tables.Numbers.{number_at}
use Rattle.vr_model.specs.tables.Tables.{dimension_at, no_vehicle}
use Rattle.vr_model.specs.schedules.Lines.{line}
use Rattle.vr_steps.specs.Levels.{HasNumbers}
use Rattle.vr_plan.specs.Timings.{soft_of}
use Rattle.vr_plan.proofs.SoftLemmas.{line-stops, no-cumuls, plan-cumuls}
use Rattle.vr_plan.proofs.timings.timing_of.Goals as goal

-- one cumul for each stop
pub timing_at-requires-2-clause-stops : goal.timing_at-requires-2-clause-stops
timing_at-requires-2-clause-stops c =
    let stops = c.in_ok-choose.ensures.stops c.if-not-branch.false in
    ap length c.cumuls.ensures ∙ stops ∙ AllZip-long HasNumbers (line c.args.model.now c.args.d c.args.v c.args.list.now).allowed
    c.write_line.new.out.allowed c.in_ok-write_line.ensures.exact.allowed ∙ line-stops c.args.model.now c.args.d c.args.v c.args.list.now

-- those that were chosen under the rule of the vehicle
pub returns-clause-timing : goal.returns-clause-timing
returns-clause-timing c =
    let model = c.args.model.now in
    let list = c.args.list.now in
    let rule = ap (λ (x : Vehicle). x.schedule) (c.get.ensures.value no_vehicle) in
    let found = sym (ap (λ goes. then_some goes c.choose.new.self) c.if-not-branch.false)
    ∙ c.in_ok-choose.ensures.chosen (line model c.args.d c.args.v list) c.in_ok-write_line.ensures.exact in
    let cumuls = c.cumuls.ensures ∙ sym (plan-cumuls model c.args.d c.args.v list c.get.result.now.schedule c.choose.new.self rule found) in
    record {
      soft = c.timing_at-2.ensures.soft ∙ ap (soft_of (dimension_at model c.args.d) c.args.v list) cumuls;
      start = c.timing_at-2.ensures.start ∙ ap (λ xs. number_at xs 0) cumuls;
      last = c.timing_at-2.ensures.last ∙ ap (λ xs. number_at xs (suc (length list))) cumuls;
    }

-- those of a list without a schedule
pub returns-then-not-branch-clause-timing : goal.returns-then-not-branch-clause-timing
returns-then-not-branch-clause-timing c =
    let model = c.args.model.now in
    let list = c.args.list.now in
    let rule = ap (λ (x : Vehicle). x.schedule) (c.get.ensures.value no_vehicle) in
    let found = sym (ap (λ goes. then_some goes c.choose.new.self) c.if-not-branch.true)
    ∙ c.in_ok-choose.ensures.chosen (line model c.args.d c.args.v list) c.in_ok-write_line.ensures.exact in
    let cumuls = no-cumuls model c.args.d c.args.v list c.get.result.now.schedule rule found in
    record {
      soft = sym (ap (soft_of (dimension_at model c.args.d) c.args.v list) cumuls);
      start = sym (ap (λ xs. number_at xs 0) cumuls);
      last = sym (ap (λ xs. number_at xs (suc (length list))) cumuls);
    }
