use Rattle.std.proofs.Common.{◌≡◌, ◌<◌, ◌-◌, sym, subst, length}
use Rattle.std.specs.Prelude.{slice_index}
use Rattle.vr_model.specs.routes.Routes.{route}
use Rattle.vr_model.proofs.routes.Lists.{list_at}
use Rattle.vr_first_savings.proofs.JoinLemmas.{last-below, first-below}
use Rattle.vr_first_savings.proofs.ends.ends_at.Goals as goal

pub ends_between-requires-clause-last : goal.ends_between-requires-clause-last
ends_between-requires-clause-last c =
    let model = c.args.closed.model.now in
    let routes = c.args.routes.now in
    let list : c.as_slice-list.result.now ≡ route routes c.args.i = list_at routes c.args.i c.as_slice-list.result.now
    c.index-routes-i.result c.as_slice-list.ensures c.index-routes-i.is c.requires.within in
    subst (λ list. slice_index list (length list - 1) < model.nodes) (sym list) (last-below model routes c.args.i c.requires.apart c.requires.within)

pub ends_between-requires-clause-first : goal.ends_between-requires-clause-first
ends_between-requires-clause-first c =
    let model = c.args.closed.model.now in
    let routes = c.args.routes.now in
    let list : c.as_slice-list.result.now ≡ route routes c.args.i = list_at routes c.args.i c.as_slice-list.result.now
    c.index-routes-i.result c.as_slice-list.ensures c.index-routes-i.is c.requires.within in
    subst (λ list. slice_index list 0 < model.nodes) (sym list) (first-below model routes c.args.i c.requires.apart c.requires.within)
