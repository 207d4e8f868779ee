use Rattle.std.proofs.Common.{◌∙◌, ℕ, List, map, ap}
use Rattle.vr_model.specs.tables.Numbers.{from_to, each}
use Rattle.vr_model.specs.moves.Moves.{places_behind}
use Rattle.vr_model.specs.declared.neighbours.Move.{Move}
use Rattle.vr_model.specs.declared.neighbours.Move.TheVariants.{Exchange}
use Rattle.vr_known.proofs.NestLemmas.{joined_all}
use Rattle.vr_moves_cross.proofs.exchange_moves.PlacesFamily.open.Goals as goal

pub returns : goal.returns
returns c =
    let s = c.args.self.now in
    let lists : List (List ℕ) = s.routes.now.lists in
    let at : ℕ → List Move = λ w. map (Exchange s.v c.args.k w) (places_behind lists s.v c.args.k w) in
    c.new.ensures ∙ (joined_all at s.v s.vehicles ∙ ap (λ n. each (from_to s.v n) at) c.args.self.now.many)
