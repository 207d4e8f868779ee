use Rattle.std.proofs.Common.{◌≡◌, ◌∙◌, ◌+◌, ◌-◌, ◌<◌, ◌≤◌, ◌||◌, ◌⊎◌, ℕ, List, inl, inr, length, suc, refl, ap, sym, subst, arith}
use Rattle.std.specs.Prelude.{IfSome}
use Rattle.std.proofs.lemmas.List.{take_all}
use Rattle.std.proofs.lemmas.Result.{IfOk-weaker}
use Rattle.vr_model.specs.schedules.Weights.{list_weight, walk_weight}
use Rattle.vr_model.specs.schedules.Lines.{line}
use Rattle.vr_model.specs.schedules.Choices.{is_feasible}
use Rattle.vr_model.specs.declared.records.Model.{Model}
use Rattle.vr_reach.specs.Lists.{is_feasible_list, IsTour, IsUsed}
use Rattle.vr_reach.specs.Spliced.{spliced}
use Rattle.vr_reach.specs.Splices.{spliced_by}
use Rattle.vr_reach.specs.Stretches.{SharesFront, SharesBack}
use Rattle.vr_reach.specs.Tested.{IsReachingBy}
use Rattle.vr_reach.specs.Tries.{list_tries, tries_between}
use Rattle.vr_reach.specs.VehicleStops.{line_of}
use Rattle.vr_reach.specs.VisitRuns.{AreVisitRuns}
use Rattle.vr_reach.proofs.AskedLemmas.{asked_so, begun_as_asked, met_as_asked, so_asked}
use Rattle.vr_reach.proofs.Splicing.{shares_back}
use Rattle.vr_reach.proofs.Stretching.{goes_on, tries_are, weight_is}
use Rattle.vr_reach.proofs.Transfer.{left_at, met_at, not_empty, row_before, row_behind}
use Rattle.vr_reach.proofs.walking.passes_along.Given.{Over}
use Rattle.vr_reach.proofs.walking.passes_along.Goals.{After-walk_through}
use Rattle.vr_reach.proofs.walking.passes_along.Goals as goal

used_by : (model : Model) (whole new : List ℕ) → new ≡ whole → IsTour model whole → (n : ℕ) → n ≡ length new → (n ≡ 0 → ⊥) → IsUsed model new
used_by model whole new same tour n is some =
    record { some = not_empty new (more (length new) (λ e. some (is ∙ e))); tour = subst (IsTour model) (sym same) tour }
  where
    more : (m : ℕ) → (m ≡ 0 → ⊥) → 0 < m
    more m other = grind arith

told_apart : (old : ℕ) {a n new : ℕ} → n ≡ new → ((a ≡ old) × (a ≡ n → ⊥)) ⊎ (a ≡ old → ⊥) → ((a ≡ old) × (a ≡ new → ⊥)) ⊎ (a ≡ old → ⊥)
told_apart old e (inl m) = inl (m.0, λ f. m.1 (f ∙ sym e))
told_apart old e (inr m) = inr m

same_lists : (old new : List ℕ) (a : ℕ) → SharesFront old new a → a ≡ length old → a ≡ length new → old ≡ new
same_lists old new a shares e f = sym (take_all a old (omega (arith, e))) ∙ (shares.same ∙ take_all a new (omega (arith, f)))

pub of-stretch-requires-clause-back : goal.of-stretch-requires-clause-back
of-stretch-requires-clause-back g c =
    subst (λ l. SharesBack c.args.known.now.list.now l (length c.args.known.now.list.now - c.args.splice.now.behind)) (sym c.of-new.ensures)
    (shares_back c.args.known.now.list.now c.args.splice.now.middle.now c.args.splice.now.front c.args.splice.now.behind c.requires.seams)

pub returns-clause-exact : goal.returns-clause-exact
returns-clause-exact g c =
    let m = c.args.stops.now.closed.model.now in
    let used_here = used_by m (spliced c.args.known.now.list.now c.args.splice.now.front c.args.splice.now.behind c.args.splice.now.middle.now)
    c.of-new.result c.of-new.ensures c.requires.tour c.len-n.result c.len-n.ensures.value c.if-n-eq0.false in
    let same = sym (ap (λ e. e || is_feasible (line m c.args.stops.now.d c.args.stops.now.v c.of-new.result)) used_here.some)
    ∙ ap (is_feasible_list m c.args.stops.now.d c.args.stops.now.v) c.of-new.ensures in
    IfOk-weaker _ _ _ (λ passed exact. so_asked refl c.asked_of-asked.ensures (λ m d v l. passed ≡ is_feasible (line m d v l)) exact ∙ same)
    c.walk_through.ensures.exact

pub asked_of-asked-requires-clause-used : goal.asked_of-asked-requires-clause-used
asked_of-asked-requires-clause-used g c =
    used_by c.args.stops.now.closed.model.now (spliced c.args.known.now.list.now c.args.splice.now.front c.args.splice.now.behind c.args.splice.now.middle.now)
    c.of-new.result c.of-new.ensures c.requires.tour c.len-n.result c.len-n.ensures.value c.if-n-eq0.false

pub levels_before-from-requires : goal.levels_before-from-requires
levels_before-from-requires g c = record {
  row = row_before c.args.stops.now.closed.model.now c.args.stops.now.d c.args.stops.now.v c.args.known.now.list.now
      c.args.known.now.rows.now c.requires.known c.of-stretch.result.front c.of-stretch.ensures.front.within_old;
}

pub levels_behind-to-requires-clause-row : goal.levels_behind-to-requires-clause-row
levels_behind-to-requires-clause-row g c = row_behind c.args.stops.now.closed.model.now c.args.stops.now.d c.args.stops.now.v
    c.args.known.now.list.now c.args.known.now.rows.now c.requires.known c.of-stretch.result.back c.of-stretch.ensures.back.within_old

pub invariant_of-leg : goal.invariant_of-leg
invariant_of-leg g c =
    let is_used = used_by c.args.stops.now.closed.model.now
    (spliced c.args.known.now.list.now c.args.splice.now.front c.args.splice.now.behind c.args.splice.now.middle.now)
    c.of-new.result c.of-new.ensures c.requires.tour c.len-n.result c.len-n.ensures.value c.if-n-eq0.false in
    let many = c.len-n.ensures.value in
    let stretch = c.of-stretch.ensures in
    let apart = stretch.apart in
    record {
      runs_are = asked_so refl c.asked_of-asked.ensures (λ m d v l. IfSome c.runs-runs.result (λ found. AreVisitRuns m d v found.now)) c.runs-runs.ensures.runs;
      order = omega (arith, apart, many);
      within = asked_so refl c.asked_of-asked.ensures (λ m d v l. c.len-n.result - c.of-stretch.result.back + 1 ≤ suc (length l)) (omega (arith, many));
      begun = begun_as_asked refl c.asked_of-asked.ensures c.of-stretch.result.front c.levels_before-from.result.now
          (left_at c.args.stops.now.closed.model.now c.args.stops.now.d c.args.stops.now.v c.args.known.now.list.now c.of-new.result
          c.asked_of-asked.result.ends.now c.asked_of-asked.ensures.ends_are c.args.known.now.rows.now c.requires.known is_used
          c.of-stretch.result.front stretch.front c.levels_before-from.result.now c.levels_before-from.ensures.start c.levels_before-from.ensures.row);
      met = subst (λ n. IsReachingBy (line_of c.asked_of-asked.result.of) (n - c.of-stretch.result.back + 1) c.levels_behind-to.result.now) (sym many)
          (met_as_asked refl c.asked_of-asked.ensures (length c.of-new.result - c.of-stretch.result.back + 1) c.levels_behind-to.result.now
          (met_at c.args.stops.now.closed.model.now c.args.stops.now.d c.args.stops.now.v c.args.known.now.list.now c.of-new.result
          c.asked_of-asked.result.ends.now c.asked_of-asked.ensures.ends_are c.args.known.now.rows.now c.requires.known is_used
          c.of-stretch.result.back stretch.back c.levels_behind-to.result.now c.levels_behind-to.ensures.end c.levels_behind-to.ensures.row));
    }

-- what the walk counted, by what the lists weigh
counted : (g : Over) (c : After-walk_through g) → (c.walk_through.new.steps ≤ c.args.steps.now + list_weight c.args.stops.now.closed.model.now
    c.args.stops.now.d c.args.stops.now.v c.args.known.now.list.now (spliced_by c.args.known.now c.args.splice.now))
    × (c.walk_through.new.tries ≤ c.args.tries.now + list_tries c.args.stops.now.closed.model.now c.args.stops.now.d
    c.args.stops.now.v c.args.known.now.list.now (spliced_by c.args.known.now c.args.splice.now))
counted g c =
    let m = c.args.stops.now.closed.model.now in
    let d = c.args.stops.now.d in
    let v = c.args.stops.now.v in
    let old = c.args.known.now.list.now in
    let new = c.of-new.result in
    let stretch = c.of-stretch.result in
    let is = c.of-stretch.ensures in
    let many = c.len-n.ensures.value in
    let used_here = used_by c.args.stops.now.closed.model.now
    (spliced c.args.known.now.list.now c.args.splice.now.front c.args.splice.now.behind c.args.splice.now.middle.now)
    c.of-new.result c.of-new.ensures c.requires.tour c.len-n.result c.len-n.ensures.value c.if-n-eq0.false in
    let changed = goes_on old new stretch.front is.front (told_apart (length old) many c.else-stretch-old.either) in
    let weight = ap (λ n. walk_weight (line m d v new) stretch.front (n - stretch.back + 1)) many
    ∙ (sym (weight_is m d v old new stretch is used_here.some c.requires.old_tour used_here.tour changed) ∙ ap (list_weight m d v old) c.of-new.ensures) in
    let tries = ap (λ n. tries_between (line m d v new) stretch.front (n - stretch.back + 1)) many
    ∙ (sym (tries_are m d v old new stretch is used_here.some c.requires.old_tour used_here.tour changed) ∙ ap (list_tries m d v old) c.of-new.ensures) in
    let last = c.len-n.result - stretch.back + 1 in (
      subst (λ n. c.walk_through.new.steps ≤ c.args.steps.now + n) weight
          (so_asked refl c.asked_of-asked.ensures
          (λ m d v l. c.walk_through.new.steps ≤ c.args.steps.now + walk_weight (line m d v l) stretch.front last) c.walk_through.ensures.count),
      subst (λ n. c.walk_through.new.tries ≤ c.args.tries.now + n) tries
          (so_asked refl c.asked_of-asked.ensures
          (λ m d v l. c.walk_through.new.tries ≤ c.args.tries.now + tries_between (line m d v l) stretch.front last) c.walk_through.ensures.tries),
    )

pub returns-clause-count : goal.returns-clause-count
returns-clause-count g c = (counted g (goal.at.returns-clause-count g c).After-walk_through).0

pub returns-clause-tries : goal.returns-clause-tries
returns-clause-tries g c = (counted g (goal.at.returns-clause-tries g c).After-walk_through).1
