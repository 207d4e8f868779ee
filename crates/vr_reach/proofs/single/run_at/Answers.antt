use Rattle.std.proofs.Common.{◌∙◌, [], ap, length, sym, subst}
use Rattle.std.specs.Prelude.{◌==◌}
use Rattle.vr_model.proofs.tables.Tests.{apart}
use Rattle.vr_steps.proofs.LevelLemmas.{level_is}
use Rattle.vr_steps.specs.Levels.{IsCumuls, level_at}
use Rattle.vr_reach.specs.Singles.{IsOnlyRun}
use Rattle.vr_reach.proofs.RunLemmas.{only_level}
use Rattle.vr_reach.proofs.single.run_at.Goals as goal

pub returns-then-len-ne1-clause-known : goal.returns-then-len-ne1-clause-known
returns-then-len-ne1-clause-known c =
    let is = level_is c.args.levels.now c.args.b c.level-set.result.now c.level-set.ensures in
    sym (apart (length (level_at c.args.levels.now c.args.b)) 1 (λ one. c.if-len-ne1.true (c.len.ensures.value ∙ sym (ap length is) ∙ one)))

pub returns-clause-run : goal.returns-clause-run
returns-clause-run c =
    let is = level_is c.args.levels.now c.args.b c.level-set.result.now c.level-set.ensures in
    subst (λ set. IsOnlyRun set c.run.result) (sym is)
    (only_level c.level-set.result.now c.run.result (sym c.len.ensures.value ∙ c.if-len-ne1.false) c.run.ensures c.len.ensures.normal
    (subst IsCumuls is (c.requires.cumuls c.args.b [] c.requires.taken)))

pub returns-clause-known : goal.returns-clause-known
returns-clause-known c =
    let is = level_is c.args.levels.now c.args.b c.level-set.result.now c.level-set.ensures in
    ap (λ n. n == 1) (sym (ap length is ∙ sym c.len.ensures.value ∙ c.if-len-ne1.false))
