use Rattle.std.proofs.Common.{◌≡◌, refl, sym, subst, inl, inr, arith}
use Rattle.std.proofs.lemmas.Bool.{cases_lt}
use Rattle.vr_model.specs.declared.neighbours.Move.TheVariants.{PairInactive}
use Rattle.vr_moves_pair.proofs.pair_inactive_moves.PairsNumbered.first.Goals as goal

pub loop-k-preserved : goal.loop-k-preserved
loop-k-preserved g c = record {
  passed = λ j low high. elim (cases_lt j c.loop-k.k) [
    | inl before ↦ c.loop-k.invariant.passed j low before
    | inr here ↦ (
        let same : j ≡ c.loop-k.k = omega (arith, high, here) in
        subst (λ n. g.S.Sieve.covers c.args.sieve.now (PairInactive n)) (sym same) (c.has.ensures c.if-not-has.false (PairInactive c.loop-k.k) refl refl refl))
  ];
}
