use Rattle.std.proofs.Common.{◌∙◌, ◌+◌, ℕ, List, suc, cond, length, map, ap, sym, add-one}
use Rattle.std.specs.Prelude.{◌==◌}
use Rattle.vr_model.specs.tables.Numbers.{from_to}
use Rattle.vr_model.specs.routes.Routes.{route}
use Rattle.vr_model.specs.declared.neighbours.Move.{Move}
use Rattle.vr_model.specs.declared.neighbours.Move.TheVariants.{Cross}
use Rattle.vr_known.proofs.Counts.{fronts}
use Rattle.vr_known.proofs.NestLemmas.{run_all}
use Rattle.vr_moves_cross.proofs.cross_moves.TargetsFamily.open.Goals as goal

pub returns : goal.returns
returns c =
    let s = c.args.self.now in
    let list : List ℕ = route s.routes.now.lists c.args.k in
    let at : ℕ → ℕ → List Move = λ from n. map (Cross s.v s.a c.args.k) (from_to from n) in
    c.new.ensures.rest ∙ (run_all (Cross s.v s.a c.args.k) c.first_gap.result (c.len.result + 1)
    ∙ ap (λ from. at from (c.len.result + 1)) c.first_gap.ensures.value
    ∙ ap (at (cond (s.a == 0) 1 0)) (add-one c.len.result ∙ ap suc c.len.ensures.value)
    ∙ ap (map (Cross s.v s.a c.args.k)) (sym (fronts s.a (length list))))
