-- When a filter of a rule of single lists is in sync with routes.
use Rattle.std.specs.Prelude.{◌≡◌, ℕ, Bool, true, List, IsTrue}
use Rattle.vr_routes.specs.Tours.{Tours}
use Rattle.vr_routes.specs.Pieces.{ListAfter, changed}
use Rattle.vr_pathfilters.specs.Lists.{holds_of_each}

-- what is kept is right for the tours, and the rule holds of their lists
pub record StandsBy (rule : ℕ → List ℕ → Bool) (knows : Tours → Type 0) (tours : Tours) : Type 0 where
  pub known : knows tours
  pub rule_holds : IsTrue (holds_of_each rule tours.lists)

-- some change was made ready, and the rule holds after this one
pub record IsReadyBy (rule : ℕ → List ℕ → Bool) (is_prepared : Bool) (lists : List (List ℕ)) (parts : List ListAfter)
    : Type 0 where
  pub prepared : is_prepared ≡ true
  pub rule_holds : IsTrue (holds_of_each rule (changed lists parts))
