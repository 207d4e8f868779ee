use Rattle.std.proofs.Common.{rules, ◌≡◌, ◌∙◌, None, Some, true, false, length, refl, ap, sym, subst, to_z, of_z, w64, arith}
use Rattle.std.proofs.lemmas.Int.{ints}
use Rattle.vr_model.specs.routes.Routes.{route}
use Rattle.vr_rules.proofs.LazyLeast.{taken, untested}
use Rattle.vr_first_savings.specs.Joins.{saving_key, best_behind}
use Rattle.vr_first_savings.specs.Bounds.{may_improve, IsBound}
use Rattle.vr_first_savings.proofs.BoundLemmas.{row-passed, row-merged, row-told, or_better, Tells}
use Rattle.vr_first_savings.proofs.joins.weigh_row.Goals as goal

pub returns-then-not-may_improve-clause-best : goal.returns-then-not-may_improve-clause-best
returns-then-not-may_improve-clause-best c =
    row-passed c.args.lookups.now.closed.model.now c.args.step.routes.now c.args.i c.args.best c.args.bound c.requires.bound
    (subst (λ b. may_improve c.args.best b ≡ false)
    (let same : to_z w64 (of_z w64 c.args.bound) ≡ c.args.bound = omega (arith, ints, c.ranges.bound) in same)
    (sym c.may_improve.ensures ∙ c.if-not-may_improve.true))

pub returns-in_default-clause-best : goal.returns-in_default-clause-best
returns-in_default-clause-best c =
    let model = c.args.lookups.now.closed.model.now in
    let routes = c.args.step.routes.now in
    subst (λ found. or_better c.args.best found ≡ best_behind model routes c.args.i (length routes) c.args.best) c.in_default.is
    (row-merged model routes c.args.i c.args.best c.in_ok-found.found c.in_ok-found.ensures)

pub returns-in_default-clause-bound : goal.returns-in_default-clause-bound
returns-in_default-clause-bound c =
    let model = c.args.lookups.now.closed.model.now in
    let routes = c.args.step.routes.now in
    let none = subst (Tells model routes c.args.i) c.in_default.is
    (row-told model routes c.args.i c.requires.front c.in_ok-found.found c.in_ok-found.ensures) in
    λ j low may. absurd (none j low may)

pub returns-then-improves-clause-best : goal.returns-then-improves-clause-best
returns-then-improves-clause-best c =
    let model = c.args.lookups.now.closed.model.now in
    let routes = c.args.step.routes.now in
    taken saving_key c.args.best c.in-Some.next true (sym c.improves.ensures ∙ c.if-improves.true) refl
    ∙ subst (λ found. or_better c.args.best found ≡ best_behind model routes c.args.i (length routes) c.args.best) c.in-Some.is
    (row-merged model routes c.args.i c.args.best c.in_ok-found.found c.in_ok-found.ensures)

pub returns-then-improves-clause-bound : goal.returns-then-improves-clause-bound
returns-then-improves-clause-bound c =
    let model = c.args.lookups.now.closed.model.now in
    let routes = c.args.step.routes.now in
    let fits : to_z w64 (of_z w64 c.in-Some.next.saving) ≡ c.in-Some.next.saving = search rules in
    subst (IsBound model routes (route routes c.args.i)) (sym fits)
    (subst (Tells model routes c.args.i) c.in-Some.is (row-told model routes c.args.i c.requires.front c.in_ok-found.found c.in_ok-found.ensures))

pub returns-else-improves-clause-best : goal.returns-else-improves-clause-best
returns-else-improves-clause-best c =
    let model = c.args.lookups.now.closed.model.now in
    let routes = c.args.step.routes.now in
    untested saving_key c.args.best c.in-Some.next true (sym c.improves.ensures ∙ c.if-improves.false)
    ∙ subst (λ found. or_better c.args.best found ≡ best_behind model routes c.args.i (length routes) c.args.best) c.in-Some.is
    (row-merged model routes c.args.i c.args.best c.in_ok-found.found c.in_ok-found.ensures)

pub returns-else-improves-clause-bound : goal.returns-else-improves-clause-bound
returns-else-improves-clause-bound c =
    let model = c.args.lookups.now.closed.model.now in
    let routes = c.args.step.routes.now in
    let fits : to_z w64 (of_z w64 c.in-Some.next.saving) ≡ c.in-Some.next.saving = search rules in
    subst (IsBound model routes (route routes c.args.i)) (sym fits)
    (subst (Tells model routes c.args.i) c.in-Some.is (row-told model routes c.args.i c.requires.front c.in_ok-found.found c.in_ok-found.ensures))
