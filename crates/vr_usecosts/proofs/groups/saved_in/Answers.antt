use Rattle.std.proofs.Common.{ℕ, List, false, arith}
use Rattle.std.proofs.lemmas.Int.{ints}
use Rattle.vr_model.specs.tables.Numbers.{total_by, number_at}
use Rattle.vr_routes.specs.Pieces.{nodes_of}
use Rattle.vr_routes.specs.declared.pieces.Piece.TheVariants.{Chain}
use Rattle.vr_parts.proofs.SumLemmas.{total-more}
use Rattle.vr_usecosts.proofs.groups.saved_in.Goals as goal

pub loop-k-preserved : goal.loop-k-preserved
loop-k-preserved c =
    let lists : List (List ℕ) = c.args.routes.now.lists in
    let more = total-more (λ p. total_by (number_at c.args.saved.now) (nodes_of lists p)) c.args.pieces.now c.loop-k.k (Chain 0 0 0 false) c.loop-k-test.true in
    let a = c.saved_by_piece-total.ensures in
    let i = c.loop-k.invariant in
    let few = c.requires.few_pieces in
    let less = c.loop-k-test.true in
    record {
      value = omega (arith, ints, more, a.value, a.range.low, a.range.high, i.value, i.range.low, i.range.high, few, less);
      range = record {
        low = omega (arith, ints, a.range.low, a.range.high, i.range.low, i.range.high, few, less);
        high = omega (arith, ints, a.range.low, a.range.high, i.range.low, i.range.high, few, less);
      };
    }
