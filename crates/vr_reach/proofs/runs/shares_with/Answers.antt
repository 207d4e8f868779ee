use Rattle.std.proofs.Common.{◌≡◌, ◌<◌, ◌≤ℤ◌, ◌∷◌, [], neg_ℤ, get_or, length, subst, sym, refl, arith}
use Rattle.std.proofs.lemmas.Int.{ints}
use Rattle.std.proofs.lemmas.Option.{get_or_from_slice_get}
use Rattle.vr_spans.specs.declared.runs.Run.{Run}
use Rattle.vr_spans.specs.Runs.{limit, ShareANumber}
use Rattle.vr_model.proofs.tables.Tests.{clash}
use Rattle.vr_reach.proofs.ProbeLemmas.{in_order, shared_behind, shared_with_one}
use Rattle.vr_reach.proofs.runs.shares_with.Goals.{After-run}
use Rattle.vr_reach.proofs.runs.shares_with.Goals as goal

-- the run that is looked at is one of the set
read : (c : After-run) → get_or c.args.set.now c.loop-k.k c.run.result ≡ c.run.result
read c = get_or_from_slice_get c.args.set.now c.loop-k.k c.run.result c.run.result c.run.ensures

low : (c : After-run) → c.loop-k.k < length c.args.set.now
low c = let test = c.loop-k-test.true in let n = c.len-runs.ensures.value in omega (arith, test, n)

pub runs_share-requires-clause-first : goal.runs_share-requires-clause-first
runs_share-requires-clause-first c = let test = c.if-run.false in omega (arith, ints, test)

pub runs_share-requires-clause-second : goal.runs_share-requires-clause-second
runs_share-requires-clause-second c =
    subst (λ (r : Run). r.lo ≤ℤ r.hi) (read c) (in_order (neg_ℤ limit) c.args.set.now c.loop-k.k c.run.result c.len-runs.ensures.normal (low c))

pub returns-then-runs_share : goal.returns-then-runs_share
returns-then-runs_share c =
    let at = (goal.at.returns-then-runs_share c).After-run in (
      λ t. shared_with_one c.args.run c.args.set.now c.loop-k.k c.run.result (low at)
          (subst (λ (r : Run). ShareANumber (c.args.run ∷ []) (r ∷ [])) (sym (read at)) (c.runs_share.ensures.0 c.if-runs_share.true)),
      λ shared. refl,
    )

pub loop-k-preserved : goal.loop-k-preserved
loop-k-preserved c =
    let at = (goal.at.loop-k-preserved c).After-run in
    λ shared. shared_behind c.args.run c.args.set.now c.loop-k.k c.run.result (low at)
    (λ both. clash c.runs_share.result (c.runs_share.ensures.1 (subst (λ (r : Run). ShareANumber (c.args.run ∷ []) (r ∷ [])) (read at) both))
    c.if-runs_share.false) (c.loop-k.invariant shared)
