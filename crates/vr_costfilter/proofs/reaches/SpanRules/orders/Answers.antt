use Rattle.std.proofs.Common.{ℕ, List, sym, subst}
use Rattle.std.specs.Prelude.{IsTrue}
use Rattle.vr_model.specs.routes.Rules.{is_valid}
use Rattle.vr_model.specs.declared.records.Model.{Model}
use Rattle.vr_costfilter.proofs.reaches.SpanRules.orders.Goals as goal

pub set_list-requires-clause-valid : goal.set_list-requires-clause-valid
set_list-requires-clause-valid c =
    let lists : List (List ℕ) = c.args.routes.now.lists in
    subst (λ (m : Model). IsTrue (is_valid m lists)) (sym c.self.view_is) c.requires.valid
