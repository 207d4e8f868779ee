use Rattle.std.proofs.Common.{◌≡◌, ◌∙◌, refl, ap, sym}
use Rattle.vr_model.specs.tables.Tables.{breaks_of, dimension_at, no_dimension}
use Rattle.vr_rules.proofs.fronts.Front.at_start.Goals as goal

pub levels_at_start-requires-clause-breaks : goal.levels_at_start-requires-clause-breaks
levels_at_start-requires-clause-breaks c = c.of-breaks.ensures.exact
    ∙ ap (λ dimension. breaks_of dimension c.args.of.now.v) (sym (c.get.ensures.value no_dimension))

pub returns : goal.returns
returns c =
    let v = c.args.of.now.v in
    let breaks : c.of-breaks.result ≡ breaks_of (dimension_at c.args.of.now.closed.model.now c.args.of.now.d) v = c.of-breaks.ensures.exact
    ∙ ap (λ dimension. breaks_of dimension v) (sym (c.get.ensures.value no_dimension)) in
    record {
      front_of_list = record {
        dimension = c.args.of.now.dimension;
        vehicle = c.args.of.now.vehicle;
        breaks = breaks;
        each_break = c.of-breaks.ensures.valid;
        few_breaks = c.of-breaks.ensures.few;
        visits = c.in_ok-visits.ensures;
        ending = record { exact = c.in_ok-ending.ensures.exact; cumuls = c.in_ok-ending.ensures.cumuls };
        form = c.in_ok-here.ensures.form;
        reached = c.in_ok-here.ensures.reached;
      };
      dimension_is = refl;
      vehicle_is = refl;
    }
