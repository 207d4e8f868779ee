use Rattle.std.proofs.Common.{◌∙◌, ◌+◌, map, ap, add-one}
use Rattle.vr_model.specs.tables.Numbers.{from_to}
use Rattle.vr_model.specs.declared.neighbours.Move.TheVariants.{TwoOpt}
use Rattle.vr_known.proofs.NestLemmas.{run_all}
use Rattle.vr_moves_route.proofs.two_opt_moves.BeginsFamily.open.Goals as goal

pub returns : goal.returns
returns c =
    let s = c.args.self.now in
    c.new.ensures.rest ∙ (run_all (TwoOpt s.v c.args.k) (c.args.k + 1) s.n ∙ ap (λ b. map (TwoOpt s.v c.args.k) (from_to b s.n)) (add-one c.args.k))
