use Rattle.std.proofs.Common.{sym, ap, subst, ◌∙◌}
use Rattle.vr_model.specs.tables.Tables.{breaks_of, no_dimension}
use Rattle.vr_model.specs.schedules.Lines.{line}
use Rattle.vr_model.proofs.schedules.LineArcs.{arcs_of_line}
use Rattle.vr_steps.specs.Levels.{AreStartLevels, AreEndLevels}
use Rattle.vr_steps.specs.Reached.{IsAllowedSet, AreReachingEnd}
use Rattle.vr_model.proofs.schedules.LinesSound.{lines_are_sound}
use Rattle.vr_steps.proofs.LawLemmas.{end_is_reached, start_is_reached}
use Rattle.vr_reach.proofs.LineParts.{end_allows, sound_line}
use Rattle.vr_reach.proofs.ends.Ends.build.Goals as goal

pub returns : goal.returns
returns c =
    let m = c.args.vehicle.closed.model.now in
    let same = c.of-breaks.ensures.exact ∙ ap (λ dimension. breaks_of dimension c.args.vehicle.v) (sym (c.get.ensures.value no_dimension)) in
    record {
      sets = record {
        breaks_are = record { same = same; few = c.of-breaks.ensures.few; valid = c.of-breaks.ensures.valid };
        start_set_is = record { exact = c.in_ok-start_set.ensures.exact; cumuls = c.in_ok-start_set.ensures.cumuls; normal = c.in_ok-start_set.ensures.normal };
        end_set_is = record { exact = c.in_ok-end_set.ensures.exact; cumuls = c.in_ok-end_set.ensures.cumuls; normal = c.in_ok-end_set.ensures.normal };
      };
      start_form = c.in_ok-start_levels.ensures.levels;
      start_is = λ list used. start_is_reached (line m c.args.vehicle.d c.args.vehicle.v list)
          (sound_line lines_are_sound m c.args.vehicle.closed.well_formed c.args.vehicle.d
          c.args.vehicle.v c.args.vehicle.dimension c.args.vehicle.vehicle list used)
          c.in_ok-start_set.start_set c.in_ok-start_levels.start_levels
          (record { exact = c.in_ok-start_set.ensures.exact; cumuls = c.in_ok-start_set.ensures.cumuls })
          (subst (λ rows. AreStartLevels c.in_ok-start_set.start_set rows c.in_ok-start_levels.start_levels) same c.in_ok-start_levels.ensures.exact);
      end_form = c.in_ok-end_levels.ensures.levels;
      end_is = λ list used.
          let n = arcs_of_line m c.args.vehicle.d c.args.vehicle.v list in
          subst (λ k. AreReachingEnd (line m c.args.vehicle.d c.args.vehicle.v list) k c.in_ok-end_levels.end_levels) n
          (end_is_reached (line m c.args.vehicle.d c.args.vehicle.v list)
          (sound_line lines_are_sound m c.args.vehicle.closed.well_formed c.args.vehicle.d
          c.args.vehicle.v c.args.vehicle.dimension c.args.vehicle.vehicle list used)
          c.in_ok-end_set.end_set c.in_ok-end_levels.end_levels
          (subst (λ k. IsAllowedSet (line m c.args.vehicle.d c.args.vehicle.v list) k c.in_ok-end_set.end_set) (sym n)
          (end_allows m c.args.vehicle.d c.args.vehicle.v list c.in_ok-end_set.end_set c.in_ok-end_set.ensures.exact c.in_ok-end_set.ensures.cumuls))
          (subst (λ rows. AreEndLevels c.in_ok-end_set.end_set rows c.in_ok-end_levels.end_levels) same c.in_ok-end_levels.ensures.exact));
    }
