use Rattle.std.proofs.Common.{◌∙◌, sym, ap, arith, refl}
use Rattle.vr_model.specs.moves.Kinds.{is_same_kind}
use Rattle.vr_known.proofs.MemoryLemmas.{notes_last, notes_on}
use Rattle.vr_known.proofs.stamps.Stamps.note.Goals as goal

pub returns-then-is_same : goal.returns-then-is_same
returns-then-is_same c =
    notes_last c.args.neighbourhoods.now c.args.self.now c.loop-k.self c.learn_below.new.self c.loop-k.k c.first_of.result _ _
    (omega (arith, c.loop-k-test.true)) refl c.learn_below.ensures c.args.mv
    (ap (is_same_kind _) (sym c.neighbourhood-last.ensures) ∙ sym c.is_same.ensures ∙ c.if-is_same.true) c.first_of.ensures c.loop-k.invariant.so

pub loop-k-preserved : goal.loop-k-preserved
loop-k-preserved c = record {
  so = notes_on c.args.neighbourhoods.now c.args.self.now c.loop-k.self c.learn_below-in-loop-k.new.self c.loop-k.k _ _ _
      (omega (arith, c.loop-k-test.true)) refl c.learn_below-in-loop-k.ensures c.args.mv
      (ap (is_same_kind _) (sym c.neighbourhood-last.ensures) ∙ sym c.is_same.ensures ∙ c.if-is_same.false) c.loop-k.invariant.so;
}
