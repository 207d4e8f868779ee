use Rattle.std.proofs.Common.{◌≡◌, ◌∙◌, ◌+◌, ap}
use Rattle.std.specs.Prelude.{min}
use Rattle.vr_routes.proofs.ListsLemmas.{once_of}
use Rattle.vr_lns.specs.Chains.{chain_end, is_between}
use Rattle.vr_lns.proofs.ChainLemmas.{by_seat, none_there}
use Rattle.vr_lns.proofs.leaving.is_in_chain.Goals as goal

pub returns-in-Some : goal.returns-in-Some
returns-in-Some c =
    let end : c.min-end.result ≡ chain_end c.args.cut.now.most c.args.cut.now.routes.now.lists c.args.cut.now.at = c.min-end.ensures
    ∙ ap (min (c.args.cut.now.at.place + c.args.cut.now.most)) c.len-length.ensures.value in
    c.is_between.ensures ∙ ap (λ e. is_between c.args.cut.now.at e c.in-Some.seat) end
    ∙ by_seat c.args.cut.now.most c.args.cut.now.routes.now.lists c.args.cut.now.at c.args.cut.now.vehicle c.args.node c.in-Some.seat
    (once_of c.args.cut.now.lookups.now.closed.model.now c.args.cut.now.routes.now.lists c.args.cut.now.lists) c.in-Some.ensures

pub returns-in-None : goal.returns-in-None
returns-in-None c = none_there c.args.cut.now.most c.args.cut.now.routes.now.lists c.args.cut.now.at c.args.cut.now.vehicle c.args.node c.in-None.ensures
