use Rattle.std.proofs.Common.{◌∙◌, ◌+◌, ◌-◌, ℕ, List, suc, map, nat_le}
use Rattle.std.specs.Prelude.{filter}
use Rattle.vr_model.specs.tables.Numbers.{from_to, below, each}
use Rattle.vr_model.specs.moves.Moves.{is_other}
use Rattle.vr_model.specs.declared.neighbours.Move.{Move}
use Rattle.vr_model.specs.declared.neighbours.Move.TheVariants.{OrOpt}
use Rattle.vr_known.proofs.NestLemmas.{joined_all_below}
use Rattle.vr_moves_route.proofs.or_opt_moves.ShiftsOfList.open.Goals as goal

pub returns : goal.returns
returns c =
    let at : ℕ → List Move = λ a. each (filter (λ k. nat_le (a + k) c.args.n) (from_to 1 4))
    (λ k. map (OrOpt c.args.v a k) (filter (is_other a) (below (suc (c.args.n - k))))) in
    c.new.ensures ∙ joined_all_below at c.args.n
