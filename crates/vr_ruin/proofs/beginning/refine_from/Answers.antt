use Rattle.std.proofs.Common.{◌≡◌, ◌∙◌, ◌-◌, [], ℕ, refl, ap, ap₂, arith}
use Rattle.vr_model.proofs.tables.Refusals.{on_err}
use Rattle.vr_strings.specs.declared.sizes.Ruin.{Ruin}
use Rattle.vr_watch.proofs.ToldLemmas.{none_behind, told_nothing}
use Rattle.vr_ruin.specs.declared.judging.Standing.{Standing}
use Rattle.vr_ruin.specs.declared.wish.Wish.{Wish}
use Rattle.vr_ruin.specs.Answers.{events_of_first}
use Rattle.vr_ruin.specs.Lacking.{moving_cost}
use Rattle.vr_ruin.specs.Refining.{refine_begun, ruin_of}
use Rattle.vr_ruin.specs.Standings.{worth_of}
use Rattle.vr_ruin.specs.Trials.{OnTrial}
use Rattle.vr_ruin.proofs.BeginLemmas.{answers, begun_in, breaks_at_first, breaks_later, firsts_are, heat_is, lasts, tells}
use Rattle.vr_ruin.proofs.beginning.refine_from.Given.{Over}
use Rattle.vr_ruin.proofs.beginning.refine_from.Goals.{After-tell_first}
use Rattle.vr_ruin.proofs.beginning.refine_from.Goals as goal

-- what a search with this heat goes by
abbrev ruin_of_step : Wish → ℕ → Ruin
ruin_of_step wish heat = record { removed = wish.removed; string = wish.string; heat = heat }

-- what the first routes are worth
first_is : (g : Over) (c : After-tell_first g) → c.in_ok-first.first ≡ worth_of c.args.stepper.now.model c.args.routes.now.lists
first_is g c = c.in_ok-first.ensures.value ∙ ap₂ worth_of c.requires.same c.requires.begun

-- what the search goes by
ruin_is : (g : Over) (c : After-tell_first g)
    → ruin_of_step c.args.wish c.heat_of_first-heat.result ≡ ruin_of c.args.stepper.now.model c.args.routes.now.lists c.args.wish
ruin_is g c =
    let moving = c.in_ok-moving.ensures.value ∙ ap (λ (t : OnTrial). moving_cost t.model t.lists) c.in_ok-first.ensures.trial
    ∙ ap₂ moving_cost c.requires.same c.requires.begun in
    ap (ruin_of_step c.args.wish)
    (c.heat_of_first-heat.ensures.value ∙ heat_is c.args.stepper.now.model c.args.routes.now.lists c.args.wish.heat
    c.in_ok-moving.moving c.count_active-active.result moving c.count_active-active.ensures.value)

-- ---- memory runs out

pub returns-in_err-first-clause-told_in_part : goal.returns-in_err-first-clause-told_in_part
returns-in_err-first-clause-told_in_part g c =
    on_err c.from_residual.result (none_behind (λ w. (goal.Watch-dyn g (w.vtable, w.value)).after w.value) _ _ [] _ (told_nothing _ _))

pub returns-in_err-moving-clause-told_in_part : goal.returns-in_err-moving-clause-told_in_part
returns-in_err-moving-clause-told_in_part g c =
    on_err c.from_residual-in_err-moving.result (none_behind (λ w. (goal.Watch-dyn g (w.vtable, w.value)).after w.value) _ _ [] _ (told_nothing _ _))

pub returns-in_err-best-clause-told_in_part : goal.returns-in_err-best-clause-told_in_part
returns-in_err-best-clause-told_in_part g c =
    on_err c.from_residual-in_err-best.result (none_behind (λ w. (goal.Watch-dyn g (w.vtable, w.value)).after w.value) _ _ [] _ (told_nothing _ _))

pub returns-in_err-tell_first-clause-told_in_part : goal.returns-in_err-tell_first-clause-told_in_part
returns-in_err-tell_first-clause-told_in_part g c =
    let at = (goal.at.returns-in_err-tell_first-clause-told_in_part g c).After-tell_first in
    on_err c.from_residual-in_err-tell_first.result
    (breaks_at_first (λ w. (goal.Watch-dyn g (w.vtable, w.value)).after w.value) c.args.stepper.now.model c.args.routes.now.lists
    c.args.limit c.args.wish (ruin_of_step c.args.wish c.heat_of_first-heat.result) c.args.limit.tries (ruin_is g at) refl
    (events_of_first c.in_ok-first.first) (firsts_are c.args.stepper.now.model c.args.routes.now.lists c.in_ok-first.first (first_is g at))
    c.args.watch.now.items c.tell_first.new.watch.items c.in_err-tell_first.ensures.told_in_part)

pub returns-in_err-end-clause-told_in_part : goal.returns-in_err-end-clause-told_in_part
returns-in_err-end-clause-told_in_part g c =
    let at = (goal.at.returns-in_err-end-clause-told_in_part g c).After-tell_first in
    on_err c.from_residual-in_err-end.result
    (breaks_later (λ w. (goal.Watch-dyn g (w.vtable, w.value)).after w.value) c.args.stepper.now.model c.args.routes.now.lists
    c.args.limit c.args.wish (ruin_of_step c.args.wish c.heat_of_first-heat.result) (c.args.limit.tries - c.begun-at.result.used)
    (ruin_is g at) (let used = ap (λ (at : Standing). at.used) c.begun-at.ensures in omega (arith, used))
    (events_of_first c.in_ok-first.first) (firsts_are c.args.stepper.now.model c.args.routes.now.lists c.in_ok-first.first (first_is g at))
    c.args.watch.now.items c.tell_first.new.watch.items c.search.new.watch.items c.in_ok-tell_first.ensures.told
    (c.in_err-end.ensures.told_in_part (refine_begun c.args.routes.now.lists c.args.wish.seed)
    (begun_in c.args.stepper.now.model c.args.routes.now.lists c.in_ok-best.best.lists c.args.wish.seed c.args.stepper.now.words
    c.begun-at.result c.in_ok-first.first (ap (λ r. r.lists) c.in_ok-best.ensures) c.requires.words c.begun-at.ensures (first_is g at))))

-- ---- the end

pub returns-clause-answer : goal.returns-clause-answer
returns-clause-answer g c =
    let at = (goal.at.returns-clause-answer g c).After-tell_first in
    c.answered.ensures ∙ answers (λ w. (goal.Watch-dyn g (w.vtable, w.value)).after w.value) c.args.stepper.now.model c.args.routes.now.lists
    c.args.limit c.args.wish (ruin_of_step c.args.wish c.heat_of_first-heat.result) (c.args.limit.tries - c.begun-at.result.used)
    (ruin_is g at) (let used = ap (λ (at : Standing). at.used) c.begun-at.ensures in omega (arith, used))
    (events_of_first c.in_ok-first.first) (firsts_are c.args.stepper.now.model c.args.routes.now.lists c.in_ok-first.first (first_is g at))
    c.search.new.routes.lists c.search.new.best.lists c.search.new.at c.args.watch.now.items
    c.tell_first.new.watch.items c.search.new.watch.items c.in_ok-end.end c.in_ok-tell_first.ensures.told
    (c.in_ok-end.ensures.ended (refine_begun c.args.routes.now.lists c.args.wish.seed)
    (begun_in c.args.stepper.now.model c.args.routes.now.lists c.in_ok-best.best.lists c.args.wish.seed c.args.stepper.now.words
    c.begun-at.result c.in_ok-first.first (ap (λ r. r.lists) c.in_ok-best.ensures) c.requires.words c.begun-at.ensures (first_is g at)))

pub returns-clause-last : goal.returns-clause-last
returns-clause-last g c =
    let at = (goal.at.returns-clause-last g c).After-tell_first in
    lasts (λ w. (goal.Watch-dyn g (w.vtable, w.value)).after w.value) c.args.stepper.now.model c.args.routes.now.lists c.args.limit
    c.args.wish (ruin_of_step c.args.wish c.heat_of_first-heat.result) (c.args.limit.tries - c.begun-at.result.used) (ruin_is g at)
    (let used = ap (λ (at : Standing). at.used) c.begun-at.ensures in omega (arith, used)) (events_of_first c.in_ok-first.first)
    (firsts_are c.args.stepper.now.model c.args.routes.now.lists c.in_ok-first.first (first_is g at))
    c.search.new.routes.lists c.search.new.best.lists c.search.new.at c.args.watch.now.items
    c.tell_first.new.watch.items c.search.new.watch.items c.in_ok-end.end c.in_ok-tell_first.ensures.told
    (c.in_ok-end.ensures.ended (refine_begun c.args.routes.now.lists c.args.wish.seed)
    (begun_in c.args.stepper.now.model c.args.routes.now.lists c.in_ok-best.best.lists c.args.wish.seed c.args.stepper.now.words
    c.begun-at.result c.in_ok-first.first (ap (λ r. r.lists) c.in_ok-best.ensures) c.requires.words c.begun-at.ensures (first_is g at)))

pub returns-clause-told : goal.returns-clause-told
returns-clause-told g c =
    let at = (goal.at.returns-clause-told g c).After-tell_first in
    tells (λ w. (goal.Watch-dyn g (w.vtable, w.value)).after w.value) c.args.stepper.now.model c.args.routes.now.lists c.args.limit
    c.args.wish (ruin_of_step c.args.wish c.heat_of_first-heat.result) (c.args.limit.tries - c.begun-at.result.used) (ruin_is g at)
    (let used = ap (λ (at : Standing). at.used) c.begun-at.ensures in omega (arith, used)) (events_of_first c.in_ok-first.first)
    (firsts_are c.args.stepper.now.model c.args.routes.now.lists c.in_ok-first.first (first_is g at))
    c.search.new.routes.lists c.search.new.best.lists c.search.new.at c.args.watch.now.items
    c.tell_first.new.watch.items c.search.new.watch.items c.in_ok-end.end c.in_ok-tell_first.ensures.told
    (c.in_ok-end.ensures.ended (refine_begun c.args.routes.now.lists c.args.wish.seed)
    (begun_in c.args.stepper.now.model c.args.routes.now.lists c.in_ok-best.best.lists c.args.wish.seed c.args.stepper.now.words
    c.begun-at.result c.in_ok-first.first (ap (λ r. r.lists) c.in_ok-best.ensures) c.requires.words c.begun-at.ensures (first_is g at)))
