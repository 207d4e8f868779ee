use Rattle.std.proofs.Common.{ℕ, ◌≤◌, ◌∙◌, sym, ap, subst, arith}
use Rattle.std.specs.Prelude.{IsTrue}
use Rattle.vr_model.specs.moves.Moves.{is_pair_together}
use Rattle.vr_model.specs.routes.Routes.{holds, route}
use Rattle.vr_model.specs.tables.Tables.{pair_at}
use Rattle.vr_model.proofs.moves.Times.{times_in}
use Rattle.vr_routes.proofs.OnceLemmas.{few_times}
use Rattle.vr_known.specs.Touching.{AreFound}
use Rattle.vr_known.proofs.TouchedLemmas.{changed_are_few, pair_there, taken_out_stays, unchanged_kept}
use Rattle.vr_known.proofs.touched.Touched.of.Goals as goal

pub returns-in-Some-clause-first : goal.returns-in-Some-clause-first
returns-in-Some-clause-first c =
    let few = c.vehicles-few.ensures in
    (changed_are_few c.args.model.now c.args.routes.now.lists (subst (λ n. n ≤ 100) few.value few.few) c.args.mv c.requires.mv
    c.in-Some.touched (subst (AreFound c.args.model.now c.args.routes.now.lists c.args.mv) c.in-Some.is c.found.ensures)).0

pub returns-in-Some-clause-second : goal.returns-in-Some-clause-second
returns-in-Some-clause-second c =
    let few = c.vehicles-few.ensures in
    (changed_are_few c.args.model.now c.args.routes.now.lists (subst (λ n. n ≤ 100) few.value few.few) c.args.mv c.requires.mv
    c.in-Some.touched (subst (AreFound c.args.model.now c.args.routes.now.lists c.args.mv) c.in-Some.is c.found.ensures)).1

pub returns-in-Some-clause-others : goal.returns-in-Some-clause-others
returns-in-Some-clause-others c =
    let model = c.args.model.now in
    let lists = c.args.routes.now.lists in
    let few : (x : ℕ) → times_in x lists ≤ 1 = λ x. few_times x lists (c.know_once.ensures x) in
    unchanged_kept model lists few c.args.mv c.requires.mv c.in-Some.touched (subst (AreFound model lists c.args.mv) c.in-Some.is c.found.ensures)

pub serving-requires-clause-pair : goal.serving-requires-clause-pair
serving-requires-clause-pair c =
    let model = c.args.model.now in
    let lists = c.args.routes.now.lists in
    let there = pair_there model lists c.args.mv c.requires.mv (subst (AreFound model lists c.args.mv) c.in-None.is c.found.ensures) in
    let low = there.0 in
    let same = c.first_of.ensures in
    omega (arith, low, same)

pub serving-requires-clause-together : goal.serving-requires-clause-together
serving-requires-clause-together c =
    let model = c.args.model.now in
    let lists = c.args.routes.now.lists in
    let there = pair_there model lists c.args.mv c.requires.mv (subst (AreFound model lists c.args.mv) c.in-None.is c.found.ensures) in
    subst (λ p. IsTrue (is_pair_together model lists p)) (sym c.first_of.ensures) there.1

pub returns-in-None-clause-others : goal.returns-in-None-clause-others
returns-in-None-clause-others c u first second =
    let model = c.args.model.now in
    let lists = c.args.routes.now.lists in
    let few : (x : ℕ) → times_in x lists ≤ 1 = λ x. few_times x lists (c.know_once.ensures x) in
    let serves = subst (λ p. IsTrue (holds (route lists c.serving.result) (pair_at model p).pickup)) c.first_of.ensures c.serving.ensures.holds in
    taken_out_stays model lists few c.args.mv c.requires.mv (subst (AreFound model lists c.args.mv) c.in-None.is c.found.ensures)
    c.serving.result serves u (λ e. first (e ∙ sym (ap (λ t. t.first) c.one.ensures)))
