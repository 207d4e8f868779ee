use Rattle.std.proofs.Common.{◌∙◌, ◌<◌, ◌≤◌, ℕ, List, length, sym, ap, subst}
use Rattle.std.specs.Prelude.{All, slice_range}
use Rattle.vr_model.specs.tables.Numbers.{total_by}
use Rattle.vr_model.specs.routes.Routes.{route}
use Rattle.vr_routes.specs.Pieces.{nodes_of, IsWithin}
use Rattle.vr_loads.specs.Loads.{value_of}
use Rattle.vr_loads.specs.Kept.{at_target, AreTaken}
use Rattle.vr_loads.proofs.KeptLemmas.{kept-at}
use Rattle.vr_loads.proofs.ValueLemmas.{taken-total}
use Rattle.vr_loads.proofs.LoadLines.{small}
use Rattle.vr_loads.proofs.PieceLemmas.{all-of-chain, chain-along, chain-kept, chain-up}
use Rattle.vr_loads.proofs.loads.Loads.along.Goals as goal

pub returns-then-other-evaluator : goal.returns-then-other-evaluator
returns-then-other-evaluator c =
    let m = c.args.model.now in
    let d = c.args.d in
    let lists : List (List ℕ) = c.args.routes.now.lists in
    let p = c.in-Chain in
    let w = subst (IsWithin lists) p.is c.requires.within in
    let other = c.index-other.result.now in
    let kept = kept-at m d lists c.args.self.now c.self.inside.vehicles.items p.vehicle other c.requires.carried w.0 c.self.view_is c.index-other.ensures in
    let f = value_of m d c.args.evaluator in
    let less = small m d c.requires.load c.args.evaluator c.requires.evaluator in
    let sums = subst (λ e. AreTaken (value_of m d e) (route lists p.vehicle) other.sums) c.if-other-evaluator.true kept.sums_are in
    chain-along f less lists p.vehicle p.from p.to p.reversed w.2 c.args.piece p.is
    (chain-kept f less lists p.vehicle p.from p.to p.reversed w.2 other.sums sums w.1)
    c.between.result (c.between.ensures.value (at_target f) 0 (route lists p.vehicle) sums ∙ taken-total f _ (slice_range (route lists p.vehicle) p.from p.to))

pub sum_of-requires-clause-nodes : goal.sum_of-requires-clause-nodes
sum_of-requires-clause-nodes c =
    let lists : List (List ℕ) = c.args.routes.now.lists in
    let p = c.in-Chain in
    let Below : ℕ → Type 0 = λ node. node < c.args.model.now.nodes in
    subst (λ l. All Below (slice_range l p.from p.to)) (sym c.list-list.ensures.value)
    (all-of-chain Below lists p.vehicle p.from p.to p.reversed (subst (λ q. All Below (nodes_of lists q)) p.is c.requires.nodes))

pub returns-else-other-evaluator : goal.returns-else-other-evaluator
returns-else-other-evaluator c =
    let f = value_of c.args.model.now c.args.d c.args.evaluator in
    let less = small c.args.model.now c.args.d c.requires.load c.args.evaluator c.requires.evaluator in
    let p = c.in-Chain in
    let lists : List (List ℕ) = c.args.routes.now.lists in
    let high = (subst (IsWithin lists) p.is c.requires.within).2 in
    chain-along f less lists p.vehicle p.from p.to p.reversed high c.args.piece p.is
    (chain-up f less lists p.vehicle p.from p.to p.reversed high (subst (λ l. length l ≤ 1000) c.list-list.ensures.value c.list-list.ensures.few))
    c.sum_of.result (c.sum_of.ensures ∙ ap (λ l. total_by f (slice_range l p.from p.to)) c.list-list.ensures.value)
