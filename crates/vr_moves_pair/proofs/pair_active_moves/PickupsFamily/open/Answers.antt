use Rattle.std.proofs.Common.{◌∙◌, ◌+◌, map, ap, add-one}
use Rattle.vr_model.specs.tables.Numbers.{from_to}
use Rattle.vr_model.specs.declared.neighbours.Move.TheVariants.{PairActive}
use Rattle.vr_known.proofs.NestLemmas.{run_all}
use Rattle.vr_moves_pair.proofs.pair_active_moves.PickupsFamily.open.Goals as goal

pub returns : goal.returns
returns c =
    let s = c.args.self.now in
    c.new.ensures.rest
    ∙ (run_all (PairActive s.p s.w c.args.k) c.args.k (s.n + 1) ∙ ap (λ e. map (PairActive s.p s.w c.args.k) (from_to c.args.k e)) (add-one s.n))
