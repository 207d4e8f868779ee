use Rattle.std.proofs.Common.{◌≡◌, ◌∙◌, ℕ, List, sum_by, ap, subst, arith}
use Rattle.std.specs.Prelude.{slice_range}
use Rattle.vr_model.specs.routes.Routes.{route}
use Rattle.vr_routes.specs.Pieces.{nodes_of, IsWithin}
use Rattle.vr_balance.proofs.BalanceLemmas.{sum-chain, sum-between, sum-nothing}
use Rattle.vr_balance.proofs.balance.Balance.add_piece.Goals as goal

pub returns-then-place-from-clause-became : goal.returns-then-place-from-clause-became
returns-then-place-from-clause-became c f =
    let lists : List (List ℕ) = c.args.routes.now.lists in
    let chain = c.in-Chain in
    let within = subst (IsWithin lists) chain.is c.requires.piece in
    let here : sum_by f (nodes_of lists c.args.piece) ≡ sum_by f (slice_range (route lists c.args.v) chain.from chain.to) =
    ap (λ p. sum_by f (nodes_of lists p)) chain.is
    ∙ (sum-chain f lists chain.vehicle chain.from chain.to chain.reversed
    ∙ ap (λ v. sum_by f (slice_range (route lists v) chain.from chain.to)) c.if-vehicle-v.true) in
    let both = sum-between f (route lists c.args.v) c.args.place chain.from chain.to c.if-place-from.true within.1 in
    let gone = c.leave.ensures.became lists f in
    omega (arith, here, both, gone)

pub returns-else-vehicle-v-clause-became : goal.returns-else-vehicle-v-clause-became
returns-else-vehicle-v-clause-became c f =
    let lists : List (List ℕ) = c.args.routes.now.lists in
    let chain = c.in-Chain in
    let here : sum_by f (nodes_of lists c.args.piece) ≡ sum_by f (slice_range (route lists chain.vehicle) chain.from chain.to) =
    ap (λ p. sum_by f (nodes_of lists p)) chain.is ∙ sum-chain f lists chain.vehicle chain.from chain.to chain.reversed in
    let none = sum-nothing f (route lists c.args.v) c.args.place c.args.place (omega arith) in
    let come = c.bring.ensures.became lists f in
    omega (arith, here, none, come)
