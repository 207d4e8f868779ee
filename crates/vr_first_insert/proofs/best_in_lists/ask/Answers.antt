use Rattle.std.proofs.Common.{◌≡◌, ◌∙◌, ℕ, ap, sym, subst}
use Rattle.vr_model.specs.routes.Routes.{route}
use Rattle.vr_first_insert.specs.Kept.{candidate_at, AreCandidatesKnown, IsCandidateKnown}
use Rattle.vr_first_insert.specs.Placings.{best_in, MayHold}
use Rattle.vr_first_insert.proofs.RowLemmas.{list_at}
use Rattle.vr_first_insert.proofs.KeptLemmas.{known-written}
use Rattle.vr_first_insert.specs.Ready.{IsListReady}
use Rattle.vr_first_insert.proofs.best_in_lists.ask.Goals as goal

pub invariant_of-of : goal.invariant_of-of
invariant_of-of c =
    let lists = c.args.on.now.lists.now in
    let v : ℕ = c.args.v in
    let list : c.as_slice-nodes.result.now ≡ route lists v = list_at lists v c.as_slice-nodes.result.now
    c.index-lists-v.result c.as_slice-nodes.ensures c.index-lists-v.is c.requires.there in
    record {
      may_hold =
          subst (λ list. MayHold c.args.on.now.items.lookups.now.closed.model.now list (candidate_at c.args.on.now.items.candidates.now c.args.i).item)
          (sym list) (c.requires.may_hold v c.requires.there);
    }

pub find_out-requires-clause-known : goal.find_out-requires-clause-known
find_out-requires-clause-known c =
    let model = c.args.on.now.items.lookups.now.closed.model.now in
    let lists = c.args.on.now.lists.now in
    let v : ℕ = c.args.v in
    let list : c.as_slice-nodes.result.now ≡ route lists v = list_at lists v c.as_slice-nodes.result.now
    c.index-lists-v.result c.as_slice-nodes.ensures c.index-lists-v.is c.requires.there in
    subst (λ list. IsCandidateKnown model v list (candidate_at c.args.on.now.items.candidates.now c.args.i) c.get-known.result) (sym list)
    (subst (IsCandidateKnown model v (route lists v) (candidate_at c.args.on.now.items.candidates.now c.args.i))
    (sym c.get-known.ensures) (c.requires.row.each c.args.i c.requires.candidate))

pub find_out-requires-clause-ready : goal.find_out-requires-clause-ready
find_out-requires-clause-ready c =
    let lists = c.args.on.now.lists.now in
    let v : ℕ = c.args.v in
    let list : c.as_slice-nodes.result.now ≡ route lists v = list_at lists v c.as_slice-nodes.result.now
    c.index-lists-v.result c.as_slice-nodes.ensures c.index-lists-v.is c.requires.there in
    subst (λ list. IsListReady c.args.on.now.items.lookups.now.closed.model.now v list c.args.on.now.list_rows.now)
    (sym list) (c.requires.asked.ready v c.requires.there)

pub returns-clause-best : goal.returns-clause-best
returns-clause-best c =
    let lists = c.args.on.now.lists.now in
    let v : ℕ = c.args.v in
    let list : c.as_slice-nodes.result.now ≡ route lists v = list_at lists v c.as_slice-nodes.result.now
    c.index-lists-v.result c.as_slice-nodes.ensures c.index-lists-v.is c.requires.there in
    c.better_of.ensures ∙ c.in_ok-told.ensures.better
    ∙ ap (λ list. best_in c.args.on.now.items.lookups.now.closed.model.now v list (candidate_at c.args.on.now.items.candidates.now c.args.i) c.args.best)
    list

pub returns-clause-known : goal.returns-clause-known
returns-clause-known c =
    let model = c.args.on.now.items.lookups.now.closed.model.now in
    let lists = c.args.on.now.lists.now in
    let v : ℕ = c.args.v in
    let candidate = candidate_at c.args.on.now.items.candidates.now c.args.i in
    let told = c.in_ok-told.told in
    let list : c.as_slice-nodes.result.now ≡ route lists v = list_at lists v c.as_slice-nodes.result.now
    c.index-lists-v.result c.as_slice-nodes.ensures c.index-lists-v.is c.requires.there in
    subst (AreCandidatesKnown model v (route lists v) c.args.on.now.items.candidates.now) (sym c.set.ensures)
    (known-written model v (route lists v) c.args.on.now.items.candidates.now c.args.known_here.now c.args.i told
    c.requires.row (subst (λ l. IsCandidateKnown model v l candidate told) list c.in_ok-told.ensures.known))
