-- What is accepted of cuts.
use Rattle.std.proofs.Common.{◌≡◌, ℕ, Bool, true, false, cond, List, Option, Some, None, refl, ap, subst}
use Rattle.std.specs.Prelude.{IsTrue}
use Rattle.vr_model.specs.declared.records.Model.{Model}
use Rattle.vr_lns.specs.Cuts.{accepted_by, improves_on, result_of, where_better}
use Rattle.vr_lns.specs.declared.cutting.Cut.{Cut}

-- what is accepted of a result is the result, and it is better
better_told : (model : Model) (lists : List (List ℕ)) (result : Option (List (List ℕ))) (after : List (List ℕ))
    → where_better model lists result ≡ Some after → IsTrue (improves_on model lists after)
better_told model lists None after e = absurd (no e)
  where
    no : None ≡ Some after → ⊥
    no e = Prim.cc
better_told model lists (Some found) after e = by (improves_on model lists found) refl e
  where
    by : (b : Bool) → improves_on model lists found ≡ b → cond b (Some found) None ≡ Some after → IsTrue (improves_on model lists after)
    by true h e = (let same : found ≡ after = Prim.cc in subst (λ ls. IsTrue (improves_on model lists ls)) same h)
    by false h e = absurd (no e)
      where
        no : None ≡ Some after → ⊥
        no e = Prim.cc

module _ (model : Model) (most : ℕ) (lists : List (List ℕ)) (at : Cut) where
  -- the result of an acceptable cut is better
  pub accepted_told : (after : List (List ℕ)) → accepted_by model most lists at ≡ Some after → IsTrue (improves_on model lists after)
  unfolding accepted_by
  accepted_told after e = better_told model lists (result_of model most lists at) after e

  -- what is accepted of the result of a cut is what is accepted of the cut
  pub accepted_is : (result : Option (List (List ℕ))) → result ≡ result_of model most lists at
      → where_better model lists result ≡ accepted_by model most lists at
  unfolding accepted_by
  accepted_is result e = ap (where_better model lists) e
