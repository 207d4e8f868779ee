use Rattle.std.proofs.Common.{ℕ, List, Bool, sym, ap, subst, ◌∙◌}
use Rattle.std.specs.Prelude.{IsTrue, slice_range}
use Rattle.std.specs.List.{list_all}
use Rattle.vr_model.specs.routes.Routes.{route}
use Rattle.vr_model.specs.routes.Rules.{allows_vehicle}
use Rattle.vr_routes.specs.Pieces.{nodes_of}
use Rattle.vr_pathfilters.proofs.GroupLemmas.{all-chain}
use Rattle.vr_pathfilters.proofs.VehicleLemmas.{all-of_chain}
use Rattle.vr_pathfilters.proofs.vehicles.piece_allows.Goals as goal

pub returns-then-vehicle-v : goal.returns-then-vehicle-v
returns-then-vehicle-v c =
    let lists : List (List ℕ) = c.args.routes.now.lists in
    let p : ℕ → Bool = allows_vehicle c.args.node_tables.now c.args.v in
    let chain = c.in-Chain in
    let rule = subst (λ w. IsTrue (list_all p (route lists w))) (sym c.if-vehicle-v.true) c.requires.rule in
    sym (ap (λ x. list_all p (nodes_of lists x)) chain.is ∙ all-of_chain p lists chain.vehicle chain.from chain.to chain.reversed rule)

pub returns-else-vehicle-v : goal.returns-else-vehicle-v
returns-else-vehicle-v c =
    let lists : List (List ℕ) = c.args.routes.now.lists in
    let p : ℕ → Bool = allows_vehicle c.args.node_tables.now c.args.v in
    let chain = c.in-Chain in
    c.allows_each.ensures ∙ (ap (λ l. list_all p (slice_range l chain.from chain.to)) c.list.ensures.value
    ∙ sym (ap (λ x. list_all p (nodes_of lists x)) chain.is ∙ all-chain p lists chain.vehicle chain.from chain.to chain.reversed))
