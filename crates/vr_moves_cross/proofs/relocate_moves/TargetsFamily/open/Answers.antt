use Rattle.std.proofs.Common.{◌≡◌, ◌∙◌, ◌+◌, ℕ, List, [], suc, length, true, cond, map, ap, add-one, sym, arith}
use Rattle.vr_model.specs.tables.Numbers.{below}
use Rattle.vr_model.specs.routes.Routes.{route}
use Rattle.vr_model.specs.moves.Moves.{is_other}
use Rattle.vr_model.specs.declared.neighbours.Move.{Move}
use Rattle.vr_model.specs.declared.neighbours.Move.TheVariants.{Relocate}
use Rattle.vr_known.proofs.NestLemmas.{run_all_below}
use Rattle.vr_moves_cross.proofs.relocate_moves.TargetsFamily.open.Goals as goal

pub returns : goal.returns
returns c =
    let s = c.args.self.now in
    let lists : List (List ℕ) = s.routes.now.lists in
    let at : ℕ → List Move = λ n. map (Relocate s.v s.a c.args.k) (below n) in
    let other : is_other s.v c.args.k ≡ true = Prim.grind arith in
    c.new.ensures.rest ∙ (
    run_all_below (Relocate s.v s.a c.args.k) (c.len.result + 1)
    ∙ ap at (add-one c.len.result ∙ ap suc c.len.ensures.value)
    ∙ ap (λ t. cond t (at (suc (length (route lists c.args.k)))) []) (sym other))
