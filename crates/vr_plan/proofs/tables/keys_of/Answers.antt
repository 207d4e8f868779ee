use Rattle.std.proofs.Common.{◌∙◌, ◌++◌, ◌∷◌, [], ap, arith}
use Rattle.vr_plan.proofs.TableLemmas.{keys_more}
use Rattle.vr_plan.proofs.tables.keys_of.Goals as goal

pub loop-k-preserved : goal.loop-k-preserved
loop-k-preserved c =
    let row = c.get.result.now in
    c.in_ok-push.ensures.items ∙ ap (λ keys. keys ++ row.key ∷ []) c.loop-k.invariant
    ∙ keys_more c.args.rows.now c.loop-k.k row (omega arith) (c.get.ensures.value row)
