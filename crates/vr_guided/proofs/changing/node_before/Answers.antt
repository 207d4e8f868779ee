use Rattle.std.proofs.Common.{◌≡◌, ◌∙◌, ◌+◌, ◌-◌, take, ap, sym, arith}
use Rattle.vr_balance.specs.Sums.{last_of}
use Rattle.vr_guided.proofs.WalkLemmas.{last_taken}
use Rattle.vr_guided.proofs.changing.node_before.Goals as goal

pub returns-clause-node : goal.returns-clause-node
returns-clause-node c =
    let some = c.if-place-eq0.false in
    let low = c.requires in
    let whole : c.args.place - 1 + 1 ≡ c.args.place = Prim.grind (arith, some) in
    sym (last_taken c.args.start c.args.list.now (c.args.place - 1) (Prim.grind (arith, some, low)))
    ∙ ap (λ k. last_of c.args.start (take k c.args.list.now)) whole
