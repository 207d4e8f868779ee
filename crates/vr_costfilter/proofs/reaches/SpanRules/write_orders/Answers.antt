use Rattle.std.proofs.Common.{ℕ, List, sym, subst}
use Rattle.vr_model.specs.declared.records.Model.{Model}
use Rattle.vr_routes.specs.Pieces.{changed}
use Rattle.vr_costfilter.specs.GlobalCosts.{AreAllOrders, AreNextRows}
use Rattle.vr_costfilter.proofs.reaches.SpanRules.write_orders.Goals as goal

pub write_all-requires-clause-rows : goal.write_all-requires-clause-rows
write_all-requires-clause-rows c =
    let lists : List (List ℕ) = c.requires.rows.0 in
    (lists, subst (λ (m : Model). AreNextRows m lists c.args.change.now c.args.orders.now c.args.next.now) (sym c.self.view_is) c.requires.rows.1)

pub returns : goal.returns
returns c lists rows =
    let inside = subst (λ (m : Model). AreNextRows m lists c.args.change.now c.args.orders.now c.args.next.now) (sym c.self.view_is) rows in
    subst (λ (m : Model). AreAllOrders m (changed lists c.args.change.now) c.write_all.new.out) c.self.view_is (c.write_all.ensures lists inside)
