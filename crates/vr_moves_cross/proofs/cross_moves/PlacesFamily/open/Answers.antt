use Rattle.std.proofs.Common.{◌∙◌, ◌+◌, ℕ, List, suc, map, ap, add-one}
use Rattle.std.specs.Prelude.{filter}
use Rattle.vr_model.specs.tables.Numbers.{from_to, each}
use Rattle.vr_model.specs.routes.Routes.{route}
use Rattle.vr_model.specs.moves.Moves.{gaps, has_some_front}
use Rattle.vr_model.specs.declared.neighbours.Move.{Move}
use Rattle.vr_model.specs.declared.neighbours.Move.TheVariants.{Cross}
use Rattle.vr_known.proofs.NestLemmas.{joined_all}
use Rattle.vr_moves_cross.proofs.cross_moves.PlacesFamily.open.Goals as goal

pub returns : goal.returns
returns c =
    let s = c.args.self.now in
    let lists : List (List ℕ) = s.routes.now.lists in
    let at : ℕ → List Move = λ w. map (Cross s.v c.args.k w) (filter (has_some_front c.args.k) (gaps (route lists w))) in
    c.new.ensures
    ∙ (joined_all at (s.v + 1) s.vehicles ∙ ap (λ v. each (from_to v s.vehicles) at) (add-one s.v)
    ∙ ap (λ n. each (from_to (suc s.v) n) at) c.args.self.now.many)
