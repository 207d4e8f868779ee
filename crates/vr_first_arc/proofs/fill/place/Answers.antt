use Rattle.std.proofs.Common.{◌≡◌, ◌∙◌, ◌++◌, [], sym, subst}
use Rattle.vr_model.specs.routes.Routes.{route}
use Rattle.vr_rules.specs.Fronts.{AreFrontsOf, IsDriven}
use Rattle.vr_rules.specs.Placing.{item_nodes}
use Rattle.std.proofs.lemmas.List.{get_or_default}
use Rattle.vr_first_arc.proofs.fill.place.Goals as goal

pub append-requires-clause-fronts : goal.append-requires-clause-fronts
append-requires-clause-fronts c =
    let lists = c.args.lists.now in
    let list : c.as_slice.result.now ≡ route lists c.args.v = c.as_slice.ensures ∙ get_or_default lists c.args.v c.index-lists-v.result [] c.requires.vehicle in
    subst (λ list. AreFrontsOf c.args.closed.model.now c.args.v list c.args.fronts.now) (sym list) c.requires.fronts

pub append-requires-clause-driven : goal.append-requires-clause-driven
append-requires-clause-driven c =
    let lists = c.args.lists.now in
    let list : c.as_slice.result.now ≡ route lists c.args.v = c.as_slice.ensures ∙ get_or_default lists c.args.v c.index-lists-v.result [] c.requires.vehicle in
    subst (λ list. IsDriven c.args.closed.model.now (list ++ item_nodes c.args.item)) (sym list) c.requires.longer

pub returns-clause-fronts : goal.returns-clause-fronts
returns-clause-fronts c =
    let lists = c.args.lists.now in
    let list : c.as_slice.result.now ≡ route lists c.args.v = c.as_slice.ensures ∙ get_or_default lists c.args.v c.index-lists-v.result [] c.requires.vehicle in
    subst (λ list. AreFrontsOf c.args.closed.model.now c.args.v (list ++ item_nodes c.args.item) c.append.new.self) list c.in_ok-append.ensures
