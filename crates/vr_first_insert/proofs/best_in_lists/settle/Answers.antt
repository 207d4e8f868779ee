use Rattle.std.proofs.Common.{◌∙◌, ℕ, sym, subst}
use Rattle.vr_model.specs.routes.Routes.{route}
use Rattle.vr_first_insert.specs.Kept.{candidate_at, IsCandidateKnown}
use Rattle.vr_first_insert.proofs.KeptLemmas.{settled-is}
use Rattle.vr_first_insert.proofs.best_in_lists.settle.Goals as goal

pub returns-then-is_settled-clause-best : goal.returns-then-is_settled-clause-best
returns-then-is_settled-clause-best c =
    let v : ℕ = c.args.v in
    let candidate = candidate_at c.args.on.now.items.candidates.now c.args.i in
    let is : IsCandidateKnown c.args.on.now.items.lookups.now.closed.model.now v (route c.args.on.now.lists.now v) candidate c.get-known.result =
    subst (IsCandidateKnown c.args.on.now.items.lookups.now.closed.model.now v (route c.args.on.now.lists.now v) candidate)
    (sym c.get-known.ensures) (c.requires.row.each c.args.i c.requires.candidate) in
    c.better_of.ensures ∙ settled-is c.args.on.now.items.lookups.now.closed.model.now v (route c.args.on.now.lists.now v)
    candidate c.get-known.result c.args.best (sym c.is_settled.ensures ∙ c.if-is_settled.true) is
