use Rattle.std.proofs.Common.{◌∙◌, ℕ, List, suc, map}
use Rattle.vr_model.specs.tables.Numbers.{from_to}
use Rattle.vr_model.specs.declared.neighbours.Move.{Move}
use Rattle.vr_model.specs.declared.neighbours.Move.TheVariants.{TwoOpt}
use Rattle.vr_known.proofs.NestLemmas.{joined_all_below}
use Rattle.vr_moves_route.proofs.two_opt_moves.ReversalsOfList.open.Goals as goal

pub returns : goal.returns
returns c =
    let at : ℕ → List Move = λ a. map (TwoOpt c.args.v a) (from_to (suc a) c.args.n) in
    c.new.ensures ∙ joined_all_below at c.args.n
