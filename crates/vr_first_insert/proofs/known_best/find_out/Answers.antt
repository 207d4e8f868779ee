use Rattle.std.proofs.Common.{◌≡◌, ◌∙◌, ap, of_z, rules, subst, sym, to_z, w64}
use Rattle.vr_first_insert.specs.Kept.{best_of, BestAddsAtLeast, IsCandidateKnown}
use Rattle.vr_first_insert.proofs.ToldLemmas.{best-adds, best-merged}
use Rattle.vr_first_insert.proofs.known_best.find_out.Goals as goal

pub returns-in-Best-clause-better : goal.returns-in-Best-clause-better
returns-in-Best-clause-better c =
    let model = c.args.of.now.list.lookups.now.closed.model.now in
    let list = c.args.of.now.list.nodes.now in
    ap (λ known. best_of known c.args.best) c.in-Best.is
    ∙ best-merged model c.args.of.now.list.vehicle list c.args.of.now.candidate c.in-Best.field-0 c.args.best
    (subst (IsCandidateKnown model c.args.of.now.list.vehicle list c.args.of.now.candidate) c.in-Best.is c.requires.known)

pub search_if_better-requires-in-Nothing-clause-bound : goal.search_if_better-requires-in-Nothing-clause-bound
search_if_better-requires-in-Nothing-clause-bound c =
    let model = c.args.of.now.list.lookups.now.closed.model.now in
    let list = c.args.of.now.list.nodes.now in
    let v = c.args.of.now.list.vehicle in
    let fits : to_z w64 (of_z w64 c.least_in.result) ≡ c.least_in.result = search rules in
    subst (BestAddsAtLeast model v list c.args.of.now.candidate) (sym fits)
    (best-adds model v list c.args.of.now.candidate c.least_in.result c.least_in.ensures)
