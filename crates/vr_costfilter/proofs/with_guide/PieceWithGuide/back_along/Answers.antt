use Rattle.std.proofs.Common.{◌≡◌, ◌∙◌, ◌+◌, ◌≤◌, ℕ, List, [], ◌∷◌, length, ap, sym, subst, arith}
use Rattle.vr_routes.specs.Pieces.{nodes_of}
use Rattle.vr_costfilter.specs.Floors.{first_step, WentBack}
use Rattle.vr_costfilter.specs.GuideRuns.{runs_of, HasWalkedBack}
use Rattle.vr_costfilter.specs.declared.trails.Step.{Step}
use Rattle.vr_costfilter.proofs.FloorLemmas.{some-map}
use Rattle.vr_costfilter.proofs.FewVisitsLemmas.{chain-few, chain-is, node-visit}
use Rattle.vr_costfilter.proofs.with_guide.PieceWithGuide.back_along.Goals as goal

pub step_back-requires-clause-node : goal.step_back-requires-clause-node
step_back-requires-clause-node c = node-visit c.args.self.now.sound c.in-Node.is

pub invariant_of-chain : goal.invariant_of-chain
invariant_of-chain c = record { sound = chain-few c.args.self.now.sound c.in-Chain.is c.list-list.ensures.value }

pub step_back-requires-clause-next : goal.step_back-requires-clause-next
step_back-requires-clause-next c = c.requires.step

pub step_back-requires-clause-room : goal.step_back-requires-clause-room
step_back-requires-clause-room c =
    let one = ap length (ap (nodes_of c.args.self.now.routes.now.lists) c.in-Node.is) in
    omega (arith, c.requires.room, one)

pub returns-in-Node : goal.returns-in-Node
returns-in-Node c =
    let g = c.args.self.now.guide.now in
    let lists : List (List ℕ) = c.args.self.now.routes.now.lists in
    let e = c.step_back.ensures in
    record {
      value = e.value ∙ sym (ap (λ p. first_step g.model.now g.d g.v (runs_of g) (nodes_of lists p) c.args.next) c.in-Node.is);
      back = some-map (λ (step : Step). (nodes : List ℕ) → nodes ≡ c.in-Node.node ∷ []
          → WentBack g.model.now g.d g.v (runs_of g) nodes c.args.next c.args.trail.now.steps.items c.step_back.new.trail.steps.items step)
          (WentBack g.model.now g.d g.v (runs_of g) (nodes_of lists c.args.self.now.piece) c.args.next
          c.args.trail.now.steps.items c.step_back.new.trail.steps.items) c.step_back.result
          (λ step f. f (nodes_of lists c.args.self.now.piece) (ap (nodes_of lists) c.in-Node.is)) e.back;
      range = e.range;
    }

pub back_along-requires : goal.back_along-requires
back_along-requires c =
    let same = chain-is c.args.self.now.routes.now.lists c.in-Chain.is c.list-list.ensures.value in
    record { step = c.requires.step; room = subst (λ (l : List ℕ). length c.args.trail.now.steps.items + length l ≤ 1000) (sym same) c.requires.room }

pub returns-in-Chain : goal.returns-in-Chain
returns-in-Chain c =
    subst (λ (l : List ℕ). HasWalkedBack c.args.self.now.guide.now l c.args.next c.args.trail.now.steps.items c.back_along.new.trail.steps.items
    c.back_along.result) (chain-is c.args.self.now.routes.now.lists c.in-Chain.is c.list-list.ensures.value) c.back_along.ensures
