-- The difference of a move that is tried: none where it is not acceptable.
use Rattle.std.proofs.Common.{◌≡◌, ℕ, Bool, true, false, cond, List, Some, None, refl, sym, ap}
use Rattle.std.specs.Prelude.{◌&&◌, ℤ, IsTrue}
use Rattle.vr_model.specs.moves.Moves.{apply}
use Rattle.vr_model.specs.routes.Rules.{is_valid}
use Rattle.vr_model.specs.declared.records.Model.{Model}
use Rattle.vr_model.specs.declared.neighbours.Move.{Move}
use Rattle.vr_routes.specs.Judging.{cost_change, verdict_of, IsDifferenceBound, IsNoLess}
use Rattle.vr_routes.specs.Runs.{with_last}
use Rattle.vr_routes.specs.declared.judging.Verdict.TheVariants.{Refused, Difference}
use Rattle.vr_descent.specs.Refused.{IsRefused}
use Rattle.vr_descent.specs.Scanned.{is_acceptable, taken_difference, IsEnough, IsPassedOver}

module _ (model : Model) (takes : List (List ℕ) → Move → ℤ → Bool) (lists : List (List ℕ)) (mv : Move) where
  abbrev after : Bool
  after = is_valid model (apply model lists mv)

  abbrev change : ℤ
  change = cost_change model lists mv

  -- a move that is not acceptable
  not_taken : is_acceptable model takes lists mv ≡ false → None ≡ taken_difference model takes lists mv
  not_taken e = sym (ap (λ b. cond b (Some change) None) e)

  -- a move that is refused
  pub refused : Refused ≡ verdict_of model lists mv → None ≡ taken_difference model takes lists mv
  refused e = not_taken (by after e)
    where
      by : (b : Bool) → Refused ≡ cond b (Difference change) Refused → (b && takes lists mv change) ≡ false
      by true h = absurd cc
      by false h = refl

  -- a move that makes no less than the least, and is not taken with that or more, is not acceptable
  refused_at_least : (least : ℤ) → IsDifferenceBound model lists mv least → IsPassedOver model takes lists mv least → is_acceptable model takes lists mv ≡ false
  refused_at_least least is passed = by after (λ valid. passed valid (is valid))
    where
      by : (b : Bool) → (IsTrue b → takes lists mv change ≡ false) → (b && takes lists mv change) ≡ false
      by true none = none refl
      by false none = refl

-- so it is of a run whose moves make no less than a bound with which none is taken
pub run_refused : (model : Model) (takes : List (List ℕ) → Move → ℤ → Bool) (lists : List (List ℕ)) (mv : Move) (bound : ℤ)
    → IsEnough model takes lists mv bound
    → (k : ℕ) → IsNoLess model lists (with_last mv k) bound → IsRefused model takes lists (with_last mv k)
run_refused model takes lists mv bound enough k no_less one = refused_at_least model takes lists (with_last mv k) bound (no_less one) (enough k one)
