use Rattle.std.proofs.Common.{◌∙◌, ℕ, List, suc, cond, map, ap}
use Rattle.std.specs.Prelude.{◌==◌}
use Rattle.vr_model.specs.tables.Numbers.{from_to}
use Rattle.vr_model.specs.declared.neighbours.Move.{Move}
use Rattle.vr_model.specs.declared.neighbours.Move.TheVariants.{Exchange}
use Rattle.vr_known.proofs.NestLemmas.{run_all}
use Rattle.vr_moves_cross.proofs.exchange_moves.TargetsFamily.open.Goals as goal

pub returns : goal.returns
returns c =
    let s = c.args.self.now in
    let lists : List (List ℕ) = s.routes.now.lists in
    let at : ℕ → ℕ → List Move = λ from n. map (Exchange s.v s.a c.args.k) (from_to from n) in
    c.new.ensures.rest ∙ (run_all (Exchange s.v s.a c.args.k) c.first_behind-first.result c.len.result
    ∙ ap (λ from. at from c.len.result) c.first_behind-first.ensures
    ∙ ap (at (cond (s.v == c.args.k) (suc s.a) 0)) c.len.ensures.value)
