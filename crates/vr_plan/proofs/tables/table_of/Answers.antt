use Rattle.std.proofs.Common.{◌∙◌, ap, sym}
use Rattle.vr_model.specs.tables.Tables.{dimension_at, no_dimension}
use Rattle.vr_plan.specs.Paying.{is_free, is_hard}
use Rattle.vr_plan.proofs.PayingLemmas.{free_pays, hard_costs, pays_nothing_where}
use Rattle.vr_plan.proofs.tables.table_of.Goals as goal

pub returns : goal.returns
returns c =
    let hard = c.is_hard.ensures ∙ ap is_hard (sym (c.get-2.ensures.value no_dimension)) in
    let free = c.is_free.ensures ∙ ap is_free (sym (c.get.ensures.value no_dimension)) in
    record {
      stops_ask = c.in_ok-build.ensures;
      places = c.in_ok-row_places.ensures;
      is_free = free;
      is_hard = hard;
      hard = λ none. hard_costs (dimension_at c.args.closed.model.now c.args.d) (sym hard ∙ none);
      free = λ none v list. pays_nothing_where (dimension_at c.args.closed.model.now c.args.d) v
          list (free_pays (dimension_at c.args.closed.model.now c.args.d) (sym free ∙ none) v list);
    }
