use Rattle.std.proofs.Common.{◌≡◌, ◌∙◌, ap, cond, rules, sym, subst, to_z, of_z, w64}
use Rattle.std.proofs.lemmas.Result.{IfOk-weaker}
use Rattle.vr_first_insert.specs.declared.known_best.KnownItem.TheVariants.{AtLeast}
use Rattle.vr_first_insert.specs.Kept.{begun_with, best_of, IsCandidateKnown}
use Rattle.vr_first_insert.specs.Placings.{may_improve}
use Rattle.vr_first_insert.specs.VehicleLists.{best_of_candidate, sought_in, tried_in}
use Rattle.vr_first_insert.proofs.ToldLemmas.{begun-better, begun-known, bound-passed_over}
use Rattle.vr_first_insert.proofs.known_best.search_if_better.Goals as goal

pub returns-then-not-may_improve-clause-better : goal.returns-then-not-may_improve-clause-better
returns-then-not-may_improve-clause-better c =
    let candidate = c.args.of.now.candidate in
    let fits : to_z w64 (of_z w64 c.args.bound.least) ≡ c.args.bound.least = search rules in
    bound-passed_over c.args.of.now.list.lookups.now.closed.model.now c.args.of.now.list.vehicle
    c.args.of.now.list.nodes.now candidate c.args.best c.args.bound.least c.requires.bound
    (ap (may_improve c.args.best candidate.class) (sym fits) ∙ sym c.may_improve.ensures ∙ c.if-not-may_improve.true)

pub returns-clause-known : goal.returns-clause-known
returns-clause-known c =
    let model = c.args.of.now.list.lookups.now.closed.model.now in
    let list = c.args.of.now.list.nodes.now in
    let v = c.args.of.now.list.vehicle in
    let fits : to_z w64 (of_z w64 c.args.bound.least) ≡ c.args.bound.least = search rules in
    IfOk-weaker c.search_list.result (λ known. known ≡ sought_in c.args.of.now c.begun_with-begin.result)
    (IsCandidateKnown model v list c.args.of.now.candidate)
    (λ known is. subst (IsCandidateKnown model v list c.args.of.now.candidate) (sym (is ∙ ap (sought_in c.args.of.now) c.begun_with-begin.ensures))
    (begun-known model v list c.args.of.now.candidate c.args.bound.searched c.args.best c.args.bound.least
    (ap (may_improve c.args.best c.args.of.now.candidate.class) (sym fits) ∙ sym c.may_improve.ensures ∙ c.if-not-may_improve.false))) c.search_list.ensures

pub returns-clause-better : goal.returns-clause-better
returns-clause-better c =
    let model = c.args.of.now.list.lookups.now.closed.model.now in
    let list = c.args.of.now.list.nodes.now in
    let v = c.args.of.now.list.vehicle in
    IfOk-weaker c.search_list.result (λ known. known ≡ sought_in c.args.of.now c.begun_with-begin.result)
    (λ known. best_of known c.args.best ≡ best_of_candidate c.args.of.now c.args.best)
    (λ known is. ap (λ known. best_of known c.args.best) (is ∙ ap (sought_in c.args.of.now) c.begun_with-begin.ensures)
    ∙ begun-better model v list c.args.of.now.candidate c.args.bound.searched c.args.best) c.search_list.ensures

pub returns-then-not-may_improve-clause-exact : goal.returns-then-not-may_improve-clause-exact
returns-then-not-may_improve-clause-exact c =
    let of = c.args.of.now in
    let fits : to_z w64 (of_z w64 c.args.bound.least) ≡ c.args.bound.least = search rules in
    ap (λ b. cond b (sought_in of (begun_with of.candidate.item c.args.bound.searched c.args.best)) (AtLeast c.args.bound))
    (sym c.if-not-may_improve.true ∙ c.may_improve.ensures ∙ ap (may_improve c.args.best of.candidate.class) fits)

pub returns-clause-exact : goal.returns-clause-exact
returns-clause-exact c =
    let of = c.args.of.now in
    let fits : to_z w64 (of_z w64 c.args.bound.least) ≡ c.args.bound.least = search rules in
    IfOk-weaker c.search_list.result (λ known. known ≡ sought_in c.args.of.now c.begun_with-begin.result)
    (λ known. known ≡ tried_in c.args.of.now c.args.bound c.args.best)
    (λ known is. is ∙ ap (sought_in of) c.begun_with-begin.ensures
    ∙ ap (λ b. cond b (sought_in of (begun_with of.candidate.item c.args.bound.searched c.args.best)) (AtLeast c.args.bound))
    (sym c.if-not-may_improve.false ∙ c.may_improve.ensures ∙ ap (may_improve c.args.best of.candidate.class) fits)) c.search_list.ensures
