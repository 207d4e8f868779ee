use Rattle.std.proofs.Common.{◌∙◌, ℕ, List, Bool, ap, sym}
use Rattle.std.specs.Prelude.{◌&&◌, slice_range}
use Rattle.std.specs.List.{list_all}
use Rattle.vr_model.specs.routes.Routes.{route}
use Rattle.vr_reach.specs.Spliced.{spliced}
use Rattle.vr_pathfilters.specs.Pairs.{serves_node, serves_unmarked}
use Rattle.vr_pathfilters.proofs.PairLemmas.{serves-spliced, serves-unmarked}
use Rattle.vr_pathfilters.proofs.pairs.serves_between.Goals as goal

pub returns-then-serves_each : goal.returns-then-serves_each
returns-then-serves_each c =
    let m = c.args.node_tables.now in
    let old : List ℕ = route c.args.ends.now.routes.now.lists c.args.ends.now.v in
    let new : List ℕ = spliced old c.args.ends.now.front c.args.ends.now.behind c.args.ends.now.middle.now in
    let gone : List ℕ = slice_range old c.args.ends.now.front c.args.ends.now.behind in
    let come = sym c.serves_each.ensures ∙ c.if-serves_each.true in
    c.serves_unmarked.ensures ∙ (ap (λ l. list_all (serves_unmarked m new c.args.ends.now.middle.now c.args.ends.now.marks.now)
    (slice_range l c.args.ends.now.front c.args.ends.now.behind)) c.list-old.ensures.value
    ∙ (serves-unmarked m new c.args.ends.now.middle.now c.args.ends.now.marks.now gone come
    ∙ (ap (λ b. b && list_all (serves_node m new) gone) (sym come)
    ∙ serves-spliced m c.model-model.ensures.well_formed old c.args.ends.now.middle.now
    c.args.ends.now.front c.args.ends.now.behind c.args.ends.now.fits.seams.order c.requires.before)))

pub returns-else-serves_each : goal.returns-else-serves_each
returns-else-serves_each c =
    let old : List ℕ = route c.args.ends.now.routes.now.lists c.args.ends.now.v in
    let gone : Bool = list_all (serves_node c.args.node_tables.now (spliced old c.args.ends.now.front c.args.ends.now.behind c.args.ends.now.middle.now))
    (slice_range old c.args.ends.now.front c.args.ends.now.behind) in
    c.if-serves_each.false
    ∙ (ap (λ b. b && gone) (sym (sym c.serves_each.ensures ∙ c.if-serves_each.false))
    ∙ serves-spliced c.args.node_tables.now c.model-model.ensures.well_formed old c.args.ends.now.middle.now
    c.args.ends.now.front c.args.ends.now.behind c.args.ends.now.fits.seams.order c.requires.before)
