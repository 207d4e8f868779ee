-- Verdicts on moves, by the test of the lists after them.
use Rattle.std.proofs.Common.{◌≡◌, ◌∙◌, ℕ, true, false, cond, List, sym, ap, subst}
use Rattle.std.specs.Prelude.{ℤ, ◌-ℤ◌, IsTrue}
use Rattle.vr_model.specs.moves.Moves.{apply}
use Rattle.vr_model.specs.moves.MoveTests.{is_move}
use Rattle.vr_model.specs.routes.Costs.{cost}
use Rattle.vr_model.specs.routes.Routes.{are_lists}
use Rattle.vr_model.specs.routes.Rules.{is_valid}
use Rattle.vr_model.specs.tables.WellFormed.{IsWellFormed}
use Rattle.vr_model.specs.declared.records.Model.{Model}
use Rattle.vr_model.specs.declared.neighbours.Move.{Move}
use Rattle.vr_model.proofs.moves.KeptLists.{moves_keep_lists}
use Rattle.vr_model.proofs.routes.Lists.{are-lists}
use Rattle.vr_routes.specs.Judging.{verdict_of}
use Rattle.vr_routes.specs.declared.judging.Verdict.TheVariants.{Refused, Difference}
use Rattle.vr_judge.specs.Rules.{keeps_rules}
use Rattle.vr_judge.specs.Verdicts.{verdict_by}
use Rattle.vr_judge.proofs.RuleLemmas.{kept_as_valid}

module _ (model : Model) (lists after : List (List ℕ)) (mv : Move) (makes : after ≡ apply model lists mv) where
  -- after a move of valid lists the rules of all filters hold exactly where the lists are valid
  pub tested_as_valid : IsWellFormed model → IsTrue (is_valid model lists) → IsTrue (is_move model lists mv) → keeps_rules model after ≡ is_valid model after
  tested_as_valid well_formed valid is_one = kept_as_valid model after
      (subst (λ ls. IsTrue (are_lists model ls)) (sym makes) (moves_keep_lists model well_formed lists mv (are-lists model lists valid) is_one))

  -- the verdict on the change is that on the move
  pub as_move : verdict_by model lists after ≡ verdict_of model lists mv
  as_move = ap (λ ls. verdict_by model lists ls) makes

module _ (model : Model) (lists after : List (List ℕ)) where
  -- lists that are not valid are refused
  pub refused_by : is_valid model after ≡ false → Refused ≡ verdict_by model lists after
  refused_by is = sym (ap (λ b. cond b (Difference (cost model after -ℤ cost model lists)) Refused) is)

  -- valid lists make a difference
  pub differs_by : is_valid model after ≡ true → (difference : ℤ)
      → difference ≡ cost model after -ℤ cost model lists → Difference difference ≡ verdict_by model lists after
  differs_by is difference exact = ap (λ d. Difference d) exact ∙ sym (ap (λ b. cond b (Difference (cost model after -ℤ cost model lists)) Refused) is)
