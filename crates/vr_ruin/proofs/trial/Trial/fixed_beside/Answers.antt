use Rattle.std.proofs.Common.{◌≡◌, ◌∙◌, ◌<◌, Bool, true, false, cond, refl, sym, ap, subst, length, arith}
use Rattle.std.specs.Prelude.{not, pos}
use Rattle.std.proofs.lemmas.Int.{ints}
use Rattle.vr_model.specs.routes.Routes.{is_empty, route}
use Rattle.vr_model.specs.tables.Tables.{vehicle_at}
use Rattle.vr_model.proofs.tables.Tests.{fails_not}
use Rattle.vr_rules.proofs.PlacingLemmas.{built-count}
use Rattle.vr_ruin.proofs.trial.Trial.fixed_beside.Goals as goal

passes : (b : Bool) → not b ≡ false → b ≡ true
passes true e = refl
passes false e = sym e

pub returns-then-is_used-clause-value : goal.returns-then-is_used-clause-value
returns-then-is_used-clause-value c =
    let t = c.args.self.now in
    sym (ap (λ b. cond b (vehicle_at t.model c.args.v).fixed (pos 0))
    (fails_not (is_empty (route t.lists c.args.v)) (sym c.is_used.ensures ∙ c.if-is_used.true)))

pub fixed-requires : goal.fixed-requires
fixed-requires c =
    let t = c.args.self.now in
    let many = built-count t.model t.lists c.know.ensures.built in
    let vehicle = c.requires in
    subst (λ m. c.args.v < length m.vehicles) (sym (ap (λ t. t.model) c.self.view_is)) (omega (arith, many, vehicle))

pub returns-clause-value : goal.returns-clause-value
returns-clause-value c =
    let t = c.args.self.now in
    let unused = passes (is_empty (route t.lists c.args.v)) (sym c.is_used.ensures ∙ c.if-is_used.false) in
    let fixed = c.fixed.ensures.value ∙ ap (λ t. (vehicle_at t.model c.args.v).fixed) c.self.view_is
    ∙ sym (ap (λ b. cond b (vehicle_at t.model c.args.v).fixed (pos 0)) unused) in
    omega (arith, ints, c.fixed.ensures.low, c.fixed.ensures.high, fixed)
