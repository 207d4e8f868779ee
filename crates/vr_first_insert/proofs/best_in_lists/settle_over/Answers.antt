use Rattle.std.proofs.Common.{◌∙◌, ℕ, sym}
use Rattle.vr_model.specs.routes.Routes.{route}
use Rattle.vr_first_insert.specs.Kept.{candidate_at}
use Rattle.vr_first_insert.proofs.KeptLemmas.{left-is}
use Rattle.std.specs.Prelude.{slice_index_or}
use Rattle.vr_first_insert.specs.declared.known_best.KnownItem.TheVariants.{Nothing}
use Rattle.vr_first_insert.proofs.best_in_lists.settle_over.Goals as goal

pub returns-then-leaves_best-clause-best : goal.returns-then-leaves_best-clause-best
returns-then-leaves_best-clause-best c =
    let v : ℕ = c.args.v in
    left-is c.args.on.now.items.lookups.now.closed.model.now v (route c.args.on.now.lists.now v)
    (candidate_at c.args.on.now.items.candidates.now c.args.i) (slice_index_or c.args.known_here.now c.args.i Nothing) c.args.best.now
    (sym c.leaves_best.ensures ∙ c.if-leaves_best.true) (c.requires.row.each c.args.i c.requires.candidate)
