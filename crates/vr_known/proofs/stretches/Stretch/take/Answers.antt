use Rattle.std.proofs.Common.{◌∙◌, ◌∷◌, ◌+◌, map, sym, ap}
use Rattle.vr_model.specs.tables.Numbers.{from_to}
use Rattle.vr_routes.specs.Runs.{with_last}
use Rattle.vr_known.proofs.NestLemmas.{from_to_step}
use Rattle.vr_known.proofs.stretches.Stretch.take.Goals as goal

pub returns : goal.returns
returns c =
    let now = c.self.inside in
    sym c.self.view_is ∙ ap (map (with_last now.mv)) (from_to_step now.from now.end c.if-from-self.false)
    ∙ ap (λ m. m ∷ map (with_last now.mv) (from_to (now.from + 1) now.end)) (sym c.with_last.ensures)
