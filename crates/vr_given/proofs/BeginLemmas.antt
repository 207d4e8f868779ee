-- The lists with which a search begins.
use Rattle.std.proofs.Common.{◌≡◌, ◌∙◌, ℕ, List, Bool, true, false, cond, Option, Some, None, refl, sym, ap}
use Rattle.std.specs.Prelude.{IsTrue}
use Rattle.vr_model.specs.first.FirstSolutions.{build, first_lists}
use Rattle.vr_model.specs.routes.Rules.{is_open, is_valid}
use Rattle.vr_model.specs.declared.records.Model.{Model}
use Rattle.vr_given.specs.Begin.{begin_lists, filled_up, ruin_begin, taken_up, where_valid}
use Rattle.vr_given.specs.Laws.{IsBegunAsGiven}

-- lists that were chosen because they are valid are valid
chosen-valid : (model : Model) (xs lists : List (List ℕ)) → cond (is_valid model xs) (Some xs) None ≡ Some lists → IsTrue (is_valid model lists)
chosen-valid model xs lists e = by (is_valid model xs) refl e
  where
    by : (b : Bool) → is_valid model xs ≡ b → cond b (Some xs) None ≡ Some lists → is_valid model lists ≡ true
    by true valid same = let k : xs ≡ lists = cc in ap (is_valid model) (sym k) ∙ valid
    by false valid same = absurd (cc)

-- the first solution is valid
pub first_lists-valid : (model : Model) (lists : List (List ℕ)) → first_lists model ≡ Some lists → IsTrue (is_valid model lists)
unfolding first_lists
first_lists-valid model lists e = chosen-valid model (build model) lists e

pub begin-valid : (model : Model) (given : Option (List (List ℕ))) (lists : List (List ℕ))
    → begin_lists model given ≡ Some lists → IsTrue (is_valid model lists)
unfolding begin_lists
begin-valid model None lists e = first_lists-valid model lists e
begin-valid model (Some given) lists e = of_taken (taken_up model given) e
  where
    of_taken : (taken : Option (List (List ℕ))) → where_valid model taken ≡ Some lists → is_valid model lists ≡ true
    of_taken None same = absurd (cc)
    of_taken (Some xs) same = chosen-valid model xs lists same

module _ (model : Model) (given : List (List ℕ)) where
  -- given valid lists are taken up as they are
  taken-valid : IsTrue (is_valid model given) → taken_up model given ≡ Some given
  taken-valid valid = ap (λ b. cond b (Some given) (cond (is_open model given) (Some (filled_up model given)) None)) valid

  pub begun-given : IsTrue (is_valid model given) → IsBegunAsGiven model given
  unfolding begin_lists ruin_begin
  begun-given valid = record {
    own = ap (where_valid model) (taken-valid valid) ∙ ap (λ b. cond b (Some given) None) valid;
    ruin = taken-valid valid;
  }
