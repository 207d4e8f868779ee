use Rattle.std.proofs.Common.{◌∙◌, ◌-◌, cond, ap, sym}
use Rattle.std.specs.Prelude.{slice_index_or}
use Rattle.vr_model.specs.routes.Routes.{route}
use Rattle.vr_arccosts.proofs.PieceLemmas.{chain-first, chain-last}
use Rattle.vr_arccosts.proofs.walks.ends_of.Goals as goal

pub returns-then-reversed-clause-last : goal.returns-then-reversed-clause-last
returns-then-reversed-clause-last c at =
    chain-last (route c.args.routes.now.lists c.args.w) c.args.from c.args.to c.requires.order c.requires.within c.args.reversed at
    ∙ ap (λ b. cond b (slice_index_or (route c.args.routes.now.lists c.args.w) c.args.from 0)
    (slice_index_or (route c.args.routes.now.lists c.args.w) (c.args.to - 1) 0)) c.if-reversed.true ∙ sym c.node_at-first.ensures

pub returns-else-reversed-clause-last : goal.returns-else-reversed-clause-last
returns-else-reversed-clause-last c at =
    chain-last (route c.args.routes.now.lists c.args.w) c.args.from c.args.to c.requires.order c.requires.within c.args.reversed at
    ∙ ap (λ b. cond b (slice_index_or (route c.args.routes.now.lists c.args.w) c.args.from 0)
    (slice_index_or (route c.args.routes.now.lists c.args.w) (c.args.to - 1) 0)) c.if-reversed.false ∙ sym c.node_at-last.ensures

pub returns-then-reversed-clause-first : goal.returns-then-reversed-clause-first
returns-then-reversed-clause-first c =
    c.node_at-last.ensures ∙ ap (λ b. cond b (slice_index_or (route c.args.routes.now.lists c.args.w) (c.args.to - 1) 0)
    (slice_index_or (route c.args.routes.now.lists c.args.w) c.args.from 0)) (sym c.if-reversed.true)
    ∙ sym (chain-first (route c.args.routes.now.lists c.args.w) c.args.from c.args.to c.requires.order c.requires.within c.args.reversed)

pub returns-else-reversed-clause-first : goal.returns-else-reversed-clause-first
returns-else-reversed-clause-first c =
    c.node_at-first.ensures ∙ ap (λ b. cond b (slice_index_or (route c.args.routes.now.lists c.args.w) (c.args.to - 1) 0)
    (slice_index_or (route c.args.routes.now.lists c.args.w) c.args.from 0)) (sym c.if-reversed.false)
    ∙ sym (chain-first (route c.args.routes.now.lists c.args.w) c.args.from c.args.to c.requires.order c.requires.within c.args.reversed)
