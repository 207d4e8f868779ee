use Rattle.std.proofs.Common.{◌≡◌, ◌<◌, ℕ, List, [], ◌∷◌, false, length, ap, sym, subst, ◌∙◌, arith}
use Rattle.std.specs.List.{AllZip}
use Rattle.std.proofs.lemmas.Bool.{false≢true}
use Rattle.vr_model.specs.routes.Routes.{is_empty}
use Rattle.vr_model.specs.tables.Tables.{breaks_of, no_dimension}
use Rattle.vr_steps.specs.Levels.{HasNumbers}
use Rattle.vr_steps.specs.Lines.{hops_along}
use Rattle.vr_steps.proofs.LineLemmas.{sound_line}
use Rattle.vr_model.specs.schedules.Lines.{line}
use Rattle.vr_model.proofs.schedules.LinesSound.{lines_are_sound}
use Rattle.vr_reach.specs.Lists.{IsUsed}
use Rattle.vr_reach.proofs.AskedLemmas.{so_asked}
use Rattle.vr_reach.proofs.LineParts.{stops_of_line}
use Rattle.vr_reach.proofs.lines.write_line.Goals as goal

some_node : (list : List ℕ) → is_empty list ≡ false → 0 < length list
some_node [] none = absurd (false≢true (sym none))
some_node (x ∷ xs) none = omega arith

pub asked_of-asked-requires-clause-used : goal.asked_of-asked-requires-clause-used
asked_of-asked-requires-clause-used c = subst (IsUsed c.args.stops.now.closed.model.now) (sym c.whole-whole.ensures) c.requires.used

pub returns-clause-exact : goal.returns-clause-exact
returns-clause-exact c = record {
  allowed = so_asked c.whole-whole.ensures c.asked_of-asked.ensures
      (λ m d v l. AllZip HasNumbers (line m d v l).allowed c.write_sets.new.sets) c.in_ok-write_sets.ensures.exact;
  hops = so_asked c.whole-whole.ensures c.asked_of-asked.ensures (λ m d v l. c.write_hops.new.hops ≡ hops_along m d v l) c.in_ok-write_hops.ensures.exact;
  breaks = c.of-out.ensures.exact ∙ ap (λ dimension. breaks_of dimension c.args.stops.now.v) (sym (c.get.ensures.value no_dimension));
}

pub returns-clause-sound : goal.returns-clause-sound
returns-clause-sound c =
    let m = c.args.stops.now.closed.model.now in
    let list = c.args.list.now in
    let sound = lines_are_sound m c.args.stops.now.closed.well_formed c.args.stops.now.d c.args.stops.now.v c.requires.stops.dimension
    c.requires.stops.vehicle list c.requires.used.some c.requires.used.tour.visits c.requires.used.tour.distinct in
    let n = stops_of_line m c.args.stops.now.d c.args.stops.now.v list in
    let some = some_node list c.requires.used.some in
    sound_line _ _ (returns-clause-exact c) sound (omega (arith, n, some)) c.in_ok-write_sets.ensures.cumuls
    c.in_ok-write_hops.ensures.sound c.of-out.ensures.few c.of-out.ensures.valid
