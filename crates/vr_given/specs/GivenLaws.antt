-- What holds of each input that is read.
use Rattle.std.specs.Prelude.{ℕ, ◌≤◌, ◌<◌, ◌^◌, IsTrue}
use Rattle.vr_model.specs.routes.Routes.{are_lists}
use Rattle.vr_model.specs.tables.WellFormed.{IsWellFormed, WherePresent}
use Rattle.vr_given.specs.declared.given.Given.{Given}
use Rattle.vr_given.specs.declared.wishes.Wish.{Wish}

-- what may be asked of a refining search
pub record IsWish (wish : Wish) : Type 0 where
  pub seed : wish.seed < 2 ^ 63
  pub removed : (1 ≤ wish.removed) × (wish.removed ≤ 100)
  pub string : (1 ≤ wish.string) × (wish.string ≤ 100)
  pub heat : WherePresent (λ heat. heat ≤ 2 ^ 40) wish.heat

-- the model is well formed, given routes are lists of it, and what is asked may be asked
pub record IsGiven (given : Given) : Type 0 where
  pub well_formed : IsWellFormed given.model
  pub are_routes : WherePresent (λ lists. IsTrue (are_lists given.model lists)) given.routes
  pub is_wish : WherePresent IsWish given.wish
