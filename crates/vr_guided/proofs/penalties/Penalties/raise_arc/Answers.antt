use Rattle.std.proofs.Common.{◌≡◌, ◌∙◌, ap, cond, sym, true}
use Rattle.vr_model.specs.routes.Routes.{UsedArc}
use Rattle.vr_guided.specs.Counts.{counted}
use Rattle.vr_guided.specs.Worths.{increased, is_no_more, worth_of}
use Rattle.vr_guided.proofs.penalties.Penalties.raise_arc.Goals as goal

pub returns-then-is_no_more-clause-raised : goal.returns-then-is_no_more-clause-raised
returns-then-is_no_more-clause-raised c =
    let arc : UsedArc = record { vehicle = c.args.list.now.vehicle; origin = c.args.origin; target = c.args.target } in
    let yes : is_no_more c.args.greatest.now (worth_of c.args.list.now.closed.model.now (counted c.args.self.now) arc) ≡ true =
    sym (ap (is_no_more c.args.greatest.now) c.worth-worth.ensures) ∙ (sym c.is_no_more.ensures ∙ c.if-is_no_more.true) in
    c.increase.ensures.increased c.args.list.now.vehicle ∙ ap (λ b. cond b (increased (counted c.args.self.now) arc) (counted c.args.self.now)) (sym yes)
