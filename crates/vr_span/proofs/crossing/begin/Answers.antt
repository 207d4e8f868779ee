use Rattle.std.proofs.Common.{◌≡◌, ◌∙◌, suc, ◌+◌, ◌≤◌, ◌++◌, [], ◌∷◌, length, map, take, ap, ap₂, sym, subst, arith}
use Rattle.std.proofs.lemmas.List.{take_all}
use Rattle.vr_span.specs.Pieces.{ArePieces, Begin, begin_of}
use Rattle.vr_span.proofs.BeginLemmas.{begin_has, begin_more, begin_rises}
use Rattle.vr_span.proofs.crossing.begin.Goals as goal

pub loop-k-preserved : goal.loop-k-preserved
loop-k-preserved c =
    let next : suc c.loop-k.k ≡ c.loop-k.k + 1 = omega arith in
    c.in_ok-push.ensures.ok ∙ ap₂ (λ pieces piece. pieces ++ piece ∷ []) c.loop-k.invariant c.at_start.ensures
    ∙ begin_more c.args.allowed.now c.loop-k.k c.run.result c.run.ensures ∙ ap (λ n. map begin_of (take n c.args.allowed.now)) next

pub returns-clause-exact : goal.returns-clause-exact
returns-clause-exact c =
    let done = c.loop-k-test.false in
    let all : length c.args.allowed.now ≤ c.loop-k.k = omega (arith, done, c.len-runs.ensures.value) in
    subst (Begin c.args.allowed.now) (sym (c.loop-k.invariant ∙ ap (map begin_of) (take_all c.loop-k.k c.args.allowed.now all))) (begin_has c.args.allowed.now)

pub returns-clause-pieces : goal.returns-clause-pieces
returns-clause-pieces c =
    let done = c.loop-k-test.false in
    let all : length c.args.allowed.now ≤ c.loop-k.k = omega (arith, done, c.len-runs.ensures.value) in
    subst ArePieces (sym (c.loop-k.invariant ∙ ap (map begin_of) (take_all c.loop-k.k c.args.allowed.now all)))
    (begin_rises c.args.allowed.now c.len-runs.ensures.normal c.requires)
