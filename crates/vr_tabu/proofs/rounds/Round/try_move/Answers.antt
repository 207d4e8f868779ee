use Rattle.std.proofs.Common.{◌≡◌, ◌∙◌, Bool, true, false, ap, ap₂, sym, subst, arith, w64, to_z, of_z}
use Rattle.std.proofs.lemmas.Int.{ints}
use Rattle.std.specs.Prelude.{int_le, ◌&&◌}
use Rattle.vr_model.specs.declared.records.Model.{Model}
use Rattle.vr_model.specs.moves.Moves.{apply}
use Rattle.vr_routes.specs.Judging.{IsDifferenceBound, verdict_of}
use Rattle.vr_routes.specs.declared.judging.Verdict.TheVariants.{Difference}
use Rattle.vr_tabu.specs.Rounds.{aspiration, bound_of, is_no_less}
use Rattle.vr_tabu.specs.TabuSearches.{is_tabu}
use Rattle.vr_tabu.specs.Tabus.{tabus_of}
use Rattle.vr_tabu.proofs.CandidateLemmas.{dearer, difference_known, fits_change, kept_out, least_itself, no_better_by, refused, taken}
use Rattle.vr_tabu.proofs.PartFacts.{change_keeps_lists}
use Rattle.vr_tabu.proofs.rounds.Round.try_move.Given.{Over}
use Rattle.vr_tabu.proofs.rounds.Round.try_move.Goals.{After-is_forbidden, After-is_no_less-in-Difference, In-Difference}
use Rattle.vr_tabu.proofs.rounds.Round.try_move.Goals as goal

-- the judge tells of the difference that the move makes, which is read as it is
judged : (g : Over) (c : In-Difference g)
    → Difference c.in-Difference.difference ≡ verdict_of c.args.self.now.model.now c.args.self.now.routes.now.lists c.args.mv
judged g c = sym c.in-Difference.is
    ∙ (c.in_ok-judge_change.ensures.verdict
    ∙ ap (λ m. verdict_of m c.args.self.now.routes.now.lists c.args.mv) (c.least_difference-least.ensures.model ∙ c.requires.judge.model_is))

same : (g : Over) (c : In-Difference g) → to_z w64 (of_z w64 c.in-Difference.difference) ≡ c.in-Difference.difference
same g c = fits_change c.args.self.now.model.now (tabus_of c.args.self.now.state.now.tabus) c.args.self.now.state.now.best.routes.lists
    c.args.self.now.routes.now.lists c.args.mv c.in-Difference.difference c.args.self.now.known.well_formed c.args.self.now.known.valid (judged g c)

-- whether it is less than the bound
no_less : (g : Over) (c : After-is_no_less-in-Difference g) → to_z w64 (of_z w64 c.in-Difference.difference) ≡ c.in-Difference.difference
    → (b : Bool) → c.is_no_less-in-Difference.result ≡ b → is_no_less (bound_of c.args.best c.args.self.now.ceiling) c.in-Difference.difference ≡ b
no_less g c as_is b is = ap (is_no_less (bound_of c.args.best c.args.self.now.ceiling)) (sym as_is)
    ∙ (ap (λ k. is_no_less k (to_z w64 (of_z w64 c.in-Difference.difference))) (sym c.bound-in-Difference.ensures)
    ∙ (sym c.is_no_less-in-Difference.ensures ∙ is))

-- whether it is forbidden
forbidden : (g : Over) (c : After-is_forbidden g)
    → to_z w64 (of_z w64 c.in-Difference.difference) ≡ c.in-Difference.difference → (b : Bool) → c.is_forbidden.result ≡ b
    → (int_le (aspiration c.args.self.now.model.now c.args.self.now.state.now.best.routes.lists c.args.self.now.routes.now.lists) c.in-Difference.difference
    && is_tabu c.args.self.now.model.now (tabus_of c.args.self.now.state.now.tabus) c.args.self.now.routes.now.lists
    (apply c.args.self.now.model.now c.args.self.now.routes.now.lists c.args.mv)) ≡ b
forbidden g c as_is b is =
    ap₂ (λ d after. int_le (aspiration c.args.self.now.model.now c.args.self.now.state.now.best.routes.lists c.args.self.now.routes.now.lists) d
    && is_tabu c.args.self.now.model.now (tabus_of c.args.self.now.state.now.tabus) c.args.self.now.routes.now.lists after)
    (sym as_is) (sym c.write.ensures.lists_are)
    ∙ (sym c.is_forbidden.ensures ∙ is)

pub is_forbidden-requires-clause-lists : goal.is_forbidden-requires-clause-lists
is_forbidden-requires-clause-lists g c =
    let known = c.args.self.now.known in
    change_keeps_lists c.args.self.now.model.now c.args.self.now.routes.now.lists
    c.write.new.out known.well_formed known.valid c.args.mv c.requires.mv c.write.ensures

pub returns-then-is_no_less-clause-best : goal.returns-then-is_no_less-clause-best
returns-then-is_no_less-clause-best g c =
    let least = c.least_difference-least.result in
    let low = subst (λ (m : Model). IsDifferenceBound m c.args.self.now.routes.now.lists c.args.mv least)
    c.requires.judge.model_is c.least_difference-least.ensures.least in
    let as_is : to_z w64 (of_z w64 least) ≡ least = omega (arith, ints, c.least_difference-least.type_inv) in
    let above = ap (is_no_less (bound_of c.args.best c.args.self.now.ceiling)) (sym as_is)
    ∙ (ap (λ b. is_no_less b (to_z w64 (of_z w64 least))) (sym c.bound.ensures) ∙ (sym c.is_no_less.ensures ∙ c.if-is_no_less.true)) in
    dearer c.args.self.now.model.now (tabus_of c.args.self.now.state.now.tabus) c.args.self.now.state.now.best.routes.lists
    c.args.self.now.routes.now.lists c.args.best c.args.self.now.ceiling c.args.mv c.requires.best c.args.self.now.bounded
    (no_better_by c.args.self.now.model.now (tabus_of c.args.self.now.state.now.tabus) c.args.self.now.state.now.best.routes.lists
    c.args.self.now.routes.now.lists (bound_of c.args.best c.args.self.now.ceiling) c.args.mv least low above)

pub returns-in-Refused-clause-best : goal.returns-in-Refused-clause-best
returns-in-Refused-clause-best g c =
    refused c.args.self.now.model.now (tabus_of c.args.self.now.state.now.tabus)
    c.args.self.now.state.now.best.routes.lists c.args.self.now.routes.now.lists c.args.best c.args.mv
    (sym c.in-Refused.is
    ∙ (c.in_ok-judge_change.ensures.verdict
    ∙ ap (λ m. verdict_of m c.args.self.now.routes.now.lists c.args.mv) (c.least_difference-least.ensures.model ∙ c.requires.judge.model_is)))

pub returns-then-is_no_less-2-clause-best : goal.returns-then-is_no_less-2-clause-best
returns-then-is_no_less-2-clause-best g c =
    let at = goal.at.returns-then-is_no_less-2-clause-best g c in
    let known = difference_known c.args.self.now.model.now (tabus_of c.args.self.now.state.now.tabus) c.args.self.now.state.now.best.routes.lists
    c.args.self.now.routes.now.lists c.args.mv c.in-Difference.difference (judged g at.In-Difference) in
    dearer c.args.self.now.model.now (tabus_of c.args.self.now.state.now.tabus) c.args.self.now.state.now.best.routes.lists
    c.args.self.now.routes.now.lists c.args.best c.args.self.now.ceiling c.args.mv c.requires.best c.args.self.now.bounded
    (no_better_by c.args.self.now.model.now (tabus_of c.args.self.now.state.now.tabus) c.args.self.now.state.now.best.routes.lists
    c.args.self.now.routes.now.lists (bound_of c.args.best c.args.self.now.ceiling) c.args.mv
    c.in-Difference.difference (least_itself c.args.self.now.model.now (tabus_of c.args.self.now.state.now.tabus)
    c.args.self.now.state.now.best.routes.lists c.args.self.now.routes.now.lists c.args.mv c.in-Difference.difference known)
    (no_less g at.After-is_no_less-in-Difference (same g at.In-Difference) true c.if-is_no_less-2.true))

pub returns-then-is_forbidden-clause-best : goal.returns-then-is_forbidden-clause-best
returns-then-is_forbidden-clause-best g c =
    let at = goal.at.returns-then-is_forbidden-clause-best g c in
    kept_out c.args.self.now.model.now (tabus_of c.args.self.now.state.now.tabus) c.args.self.now.state.now.best.routes.lists
    c.args.self.now.routes.now.lists c.args.best c.args.mv c.in-Difference.difference (judged g at.In-Difference)
    (forbidden g at.After-is_forbidden (same g at.In-Difference) true c.if-is_forbidden.true)

pub returns-else-is_forbidden-clause-best : goal.returns-else-is_forbidden-clause-best
returns-else-is_forbidden-clause-best g c =
    let at = goal.at.returns-else-is_forbidden-clause-best g c in
    let as_is = same g at.In-Difference in
    taken c.args.self.now.model.now (tabus_of c.args.self.now.state.now.tabus) c.args.self.now.state.now.best.routes.lists
    c.args.self.now.routes.now.lists c.args.best c.args.self.now.ceiling c.args.mv c.in-Difference.difference c.requires.best (judged g at.In-Difference)
    (no_less g at.After-is_no_less-in-Difference as_is false c.if-is_no_less-2.false) (forbidden g at.After-is_forbidden as_is false c.if-is_forbidden.false)
