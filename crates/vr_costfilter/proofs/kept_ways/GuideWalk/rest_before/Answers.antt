use Rattle.std.proofs.Common.{◌∙◌, ◌+◌, ap, sym, subst, arith}
use Rattle.std.specs.Prelude.{pos}
use Rattle.std.proofs.lemmas.List.{get_or_default}
use Rattle.vr_spans.specs.declared.runs.Run.{Run}
use Rattle.vr_model.specs.tables.Tables.{transit}
use Rattle.vr_model.proofs.routes.Lists.{visit_below}
use Rattle.vr_costfilter.specs.GuideRuns.{runs_of}
use Rattle.vr_costfilter.specs.Rests.{rest_by, IsTightRestOf}
use Rattle.vr_costfilter.specs.Runs.{no_run}
use Rattle.vr_costfilter.specs.Ways.{tight-more}
use Rattle.vr_costfilter.proofs.RestLemmas.{before-rest}
use Rattle.vr_costfilter.proofs.kept_ways.GuideWalk.rest_before.Goals as goal

abbrev first_run : Run
first_run = record { lo = pos 0; hi = pos 0 }

pub returns-clause-range : goal.returns-clause-range
returns-clause-range c n m less is =
    let g = c.args.self.now in
    let h = g.sound in
    let low = visit_below g.model.now c.args.node c.requires.node in
    let same = get_or_default g.visits.now c.args.node first_run no_run (omega (arith, h.visits.long, low)) in
    let value = c.rest_on.ensures ∙ ap (λ (r : Run). rest_by (transit g.model.now g.d g.v c.args.node c.args.rest.at) c.args.node r c.args.rest) same in
    tight-more (n + 1) m (omega (arith, less))
    (subst (IsTightRestOf g.model.now (n + 1)) (sym value)
    (before-rest g.model.now h.well_formed g.d g.v h.dimension h.vehicle (runs_of g) h.visits n c.args.rest c.args.node is c.requires.node))
