use Rattle.std.proofs.Common.{◌≡◌, ◌∙◌, ◌+◌, ◌-◌, ℕ, List, [], suc, true, cond, nat_le, map, ap, sym, add-one, arith}
use Rattle.std.specs.Prelude.{filter}
use Rattle.vr_model.specs.tables.Numbers.{below}
use Rattle.vr_model.specs.moves.Moves.{is_other}
use Rattle.vr_model.specs.declared.neighbours.Move.{Move}
use Rattle.vr_model.specs.declared.neighbours.Move.TheVariants.{OrOpt}
use Rattle.vr_known.proofs.NestLemmas.{run_below}
use Rattle.vr_moves_route.proofs.or_opt_moves.ChainsFamily.open.Goals as goal

pub returns : goal.returns
returns c =
    let s = c.args.self.now in
    let k = c.args.k in
    let at : List ℕ → List Move = λ l. map (OrOpt s.v s.a k) (filter (is_other s.a) l) in
    let there : nat_le (s.a + k) s.n ≡ true = Prim.grind arith in
    c.new.ensures.rest ∙ (
    run_below (is_other s.a) (OrOpt s.v s.a k) ((s.n - k) + 1)
    ∙ ap (λ n. at (below n)) (add-one (s.n - k))
    ∙ ap (λ t. cond t (at (below (suc (s.n - k)))) []) (sym there))
