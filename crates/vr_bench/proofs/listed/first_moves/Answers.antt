use Rattle.std.proofs.Common.{◌∙◌, All, subst, sym}
use Rattle.std.specs.Prelude.{IsTrue}
use Rattle.std.proofs.lemmas.List.Elements.{All-push}
use Rattle.vr_model.specs.moves.MoveTests.{is_move}
use Rattle.vr_model.specs.declared.neighbours.Move.{Move}
use Rattle.vr_bench.proofs.listed.first_moves.Goals as goal

pub loop-mv-preserved-then-of_into : goal.loop-mv-preserved-then-of_into
loop-mv-preserved-then-of_into c =
    let IsOne : Move → Type 0 = λ mv. IsTrue (is_move c.args.closed.model.now c.args.routes.now.lists mv) in
    subst (All IsOne) (sym c.in_ok-push.ensures.items)
    (All-push IsOne c.loop-mv.kept.items c.in-Some.mv c.loop-mv.invariant (sym c.of_into.ensures.answer ∙ c.if-of_into.true))
