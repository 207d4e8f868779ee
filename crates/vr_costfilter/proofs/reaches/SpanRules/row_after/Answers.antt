use Rattle.std.proofs.Common.{sym, subst}
use Rattle.std.specs.Prelude.{IfOk}
use Rattle.vr_model.specs.declared.records.Model.{Model}
use Rattle.vr_routes.specs.Pieces.{joined, part_at}
use Rattle.vr_costfilter.specs.GlobalCosts.{IsRow}
use Rattle.vr_costfilter.specs.Kept.{AreAllKept}
use Rattle.vr_costfilter.proofs.KnownLemmas.{valid-part}
use Rattle.vr_costfilter.proofs.reaches.SpanRules.row_after.Goals as goal

pub invariant_of-part : goal.invariant_of-part
invariant_of-part c = record {
  sound = valid-part c.self.inside.lookups.closed.model.now c.args.self.now c.self.view_is c.self.inside.lookups.closed.well_formed
      c.args.cumuls.now c.args.routes.now c.args.change.now c.requires.change c.args.k c.requires.part;
}

pub row_of_part-requires-clause-kept : goal.row_of_part-requires-clause-kept
row_of_part-requires-clause-kept c =
    subst (λ m. AreAllKept m c.args.routes.now.lists c.args.cumuls.now) (sym c.self.view_is) c.requires.change.stands.cumuls

pub returns : goal.returns
returns c =
    let part = part_at c.args.change.now c.args.k in
    subst (λ (m : Model). IfOk c.row_of_part.result (IsRow m part.vehicle (joined c.args.routes.now.lists part.pieces))) c.self.view_is c.row_of_part.ensures
