use Rattle.std.proofs.Common.{◌∙◌, ◌+◌, ℕ, List, suc, map, ap, add-one}
use Rattle.vr_model.specs.tables.Numbers.{below}
use Rattle.vr_model.specs.declared.neighbours.Move.{Move}
use Rattle.vr_model.specs.declared.neighbours.Move.TheVariants.{MakeActive}
use Rattle.vr_known.proofs.NestLemmas.{run_all_below}
use Rattle.vr_moves_active.proofs.make_active_moves.TargetsFamily.open.Goals as goal

pub returns : goal.returns
returns c =
    let at : ℕ → List Move = λ n. map (MakeActive c.args.self.now.u c.args.k) (below n) in
    c.new.ensures.rest ∙ (run_all_below (MakeActive c.args.self.now.u c.args.k) (c.len.result + 1) ∙ ap at (add-one c.len.result ∙ ap suc c.len.ensures.value))
